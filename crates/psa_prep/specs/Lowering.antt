-- What the preparation of a formula is given, and what it makes.
use Rattle.std.specs.Prelude.{◌≡◌, ◌==◌, ◌≤◌, ℕ, suc, Bool, true, List, [], ◌∷◌, Option, Some, None, length, reverse, nat_eq, if◌then◌else◌}
use Rattle.std.specs.List.{slice_get}
use Rattle.std.specs.HashMap.{HashMap, get}
use Rattle.psa_model.specs.declared.formula.Connective.{Connective}
use Rattle.psa_model.specs.declared.formula.Connective.TheVariants.{And, Or, Not, Xor, Iff, Nand, Nor, Imply, Atleast, Cardinality}
use Rattle.psa_model.specs.declared.formula.Formula.{Formula}
use Rattle.psa_model.specs.declared.ids.EventNumber.{EventNumber}
use Rattle.psa_model.specs.Ranks.{ranks_of}
use Rattle.psa_model.specs.Targets.{occurs_by_rank}
use Rattle.psa_prep.specs.declared.builder.Builder.{Builder}
use Rattle.psa_prep.specs.declared.lowering.Context.{Context}
use Rattle.psa_prep.specs.declared.pairs.Pair.{Pair}
use Rattle.psa_prep.specs.declared.pairs.Signs.{Signs}
use Rattle.psa_prep.specs.Index.{IsIndex}
use Rattle.psa_prep.specs.Nodes.{nodes_of}
use Rattle.psa_prep.specs.Pairs.{Reads, swapped}
use Rattle.psa_prep.specs.Places.{Grown}
use Rattle.psa_prep.specs.Sound.{World, state_houses, formula_truth, IsSound, Made}
use Rattle.psa_prep.specs.States.{AreEarlier}

abbrev pub world_of : Context → World
world_of context = record { expanded = context.expanded.now; target = context.target.now; changes = reverse context.states.now.changes.keys }

-- the house states in force
abbrev pub houses_of : Context → List Bool
houses_of context = state_houses (world_of context) context.state

-- the first rank of the event, where the list begins at a rank
abbrev pub rank_at : ℕ → ℕ → List EventNumber → Option ℕ
rank_at event rank [] = None
rank_at event rank (one ∷ more) = if one.0 == event then Some rank else rank_at event (suc rank) more

-- the rank of each event
abbrev pub AreRanks : {S : Type 0} → List EventNumber → HashMap ℕ ℕ S → Type 0
AreRanks ranks map = (event : ℕ) → get nat_eq map event ≡ rank_at event 0 ranks

pub record IsContext (context : Context) : Type 0 where
  pub has_index : IsIndex context.expanded.now context.index.now
  pub has_ranks : AreRanks (ranks_of context.expanded.now context.target.now) context.ranks.now
  pub earlier : AreEarlier (reverse context.states.now.changes.keys)
  pub within : context.state ≤ length (reverse context.states.now.changes.keys)

-- the pair reads as the formula
abbrev pub Makes : Context → Formula → Signs → Builder → Builder → Pair → Type 0
Makes context f signs = Made (world_of context) signs (formula_truth (world_of context) (houses_of context) f)

-- the pair reads as an event
abbrev pub MakesEvent : Context → ℕ → Signs → Builder → Builder → Pair → Type 0
MakesEvent context event signs =
    Made (world_of context) signs (λ s. occurs_by_rank s 0 (ranks_of context.expanded.now context.target.now) event)

abbrev pub both_signs : Signs
both_signs = record { yes = true; no = true }

-- what is asked of the argument at a place, where signs are asked of the connective
abbrev pub argument_signs : Connective → ℕ → Signs → Signs
argument_signs And place signs = signs
argument_signs Or place signs = signs
argument_signs Atleast place signs = signs
argument_signs Not place signs = swapped signs
argument_signs Nand place signs = swapped signs
argument_signs Nor place signs = swapped signs
argument_signs Xor place signs = both_signs
argument_signs Iff place signs = both_signs
argument_signs Cardinality place signs = both_signs
argument_signs Imply place signs = if place == 0 then swapped signs else signs

-- pairs read as arguments, each for the signs of its place
abbrev pub AllRead : World → List Bool → (ℕ → Signs) → List Formula → Builder → List Pair → Type 0
AllRead w houses signs_of arguments builder pairs =
    (place : ℕ) (f : Formula) (pair : Pair) → slice_get arguments place ≡ Some f → slice_get pairs place ≡ Some pair
    → Reads (signs_of place) (formula_truth w houses f) (nodes_of builder) pair

pub record MakesAll (context : Context) (operator : Connective) (arguments : List Formula) (signs : Signs) (before now : Builder) (pairs : List Pair) : Type 0 where
  pub size : length pairs ≡ length arguments
  pub read : AllRead (world_of context) (houses_of context) (λ place. argument_signs operator place signs) arguments now pairs
  pub grown : Grown (nodes_of before) (nodes_of now)
  pub sound : IsSound (world_of context) now
