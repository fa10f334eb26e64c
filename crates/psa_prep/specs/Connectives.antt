-- What is made of a connective by the nodes of its arguments.
use Rattle.std.specs.Prelude.{◌≡◌, ℕ, Bool, true, false, List, map, length}
use Rattle.std.specs.List.{list_all, list_any}
use Rattle.psa_model.specs.declared.formula.Formula.{Formula}
use Rattle.psa_model.specs.declared.formula.Formula.TheVariants as variant
use Rattle.psa_model.specs.Formulas.{truth_of_connective, has_arity}
use Rattle.psa_model.specs.Parts.{Meets}
use Rattle.psa_prep.specs.declared.builder.Builder.{Builder}
use Rattle.psa_prep.specs.declared.connectives.Operands.{Operands}
use Rattle.psa_prep.specs.declared.lowering.Context.{Context}
use Rattle.psa_prep.specs.declared.pairs.Pair.{Pair}
use Rattle.psa_prep.specs.declared.pairs.Signs.{Signs}
use Rattle.psa_prep.specs.Lowering.{world_of, houses_of, AllRead}
use Rattle.psa_prep.specs.Sound.{formula_truth, AreParts, Made}

-- the connective as a formula
abbrev pub whole : Operands → Formula
whole operands = variant.Connective operands.operator operands.min operands.max operands.arguments.now

-- the truths of some formulas
abbrev pub truths : Context → (ℕ → Bool) → List Formula → List Bool
truths context s formulas = map (λ f. formula_truth (world_of context) (houses_of context) f s) formulas

pub record AreOperands (context : Context) (operands : Operands) (builder : Builder) (signs_of : ℕ → Signs) : Type 0 where
  pub meets : Meets context.expanded.now context.target.now (houses_of context) (whole operands)
  pub arity : has_arity operands.operator operands.min operands.max (length operands.arguments.now) ≡ true
  pub is : (s : ℕ → Bool) → formula_truth (world_of context) (houses_of context) (whole operands) s ≡ truth_of_connective operands.operator operands.min operands.max (truths context s operands.arguments.now)
  pub size : length operands.pairs.now ≡ length operands.arguments.now
  pub read : AllRead (world_of context) (houses_of context) signs_of operands.arguments.now builder operands.pairs.now

-- all of the values, or some
abbrev pub gathers : Bool → List Bool → Bool
gathers true values = list_all (λ b. b) values
gathers false values = list_any (λ b. b) values

-- the pair reads as the connective
abbrev pub MakesWhole : Context → Operands → Signs → Builder → Builder → Pair → Type 0
MakesWhole context operands signs = Made (world_of context) signs (formula_truth (world_of context) (houses_of context) (whole operands))

-- the pair reads as this function of the arguments' truths
abbrev pub MakesOf : Context → Operands → (List Bool → Bool) → Signs → Builder → Builder → Pair → Type 0
MakesOf context operands f signs = Made (world_of context) signs (λ s. f (truths context s operands.arguments.now))

-- this function of the arguments' truths is a part
abbrev pub IsPartly : Context → Operands → (List Bool → Bool) → Type 0
IsPartly context operands f = AreParts (world_of context) (λ s. f (truths context s operands.arguments.now))
