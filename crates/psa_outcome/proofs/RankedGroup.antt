-- The events met in the gate over a group of three members.
use Rattle.std.proofs.Common.{◌≡◌, ℕ, suc, true, List, [], ◌∷◌, refl, sym, ap, ◌∙◌}
use Rattle.std.specs.Prelude.{codes, map}
use Rattle.psa_model.specs.declared.formula.Connective.{Connective}
use Rattle.psa_model.specs.declared.formula.Formula.{Formula}
use Rattle.psa_model.specs.declared.formula.Formula.TheOpen.{Formula-F}
use Rattle.psa_model.specs.declared.formula.Formula.TheViews.{out-Formula, out-roll-Formula}
use Rattle.psa_model.specs.declared.formula.Formula.TheVariants as formula
use Rattle.psa_model.specs.declared.targets.Target.TheVariants.{TopEvent}
use Rattle.psa_model.specs.Expansion.{expanded_of}
use Rattle.psa_model.specs.Names.{ranked_text}
use Rattle.psa_model.specs.Ranks.{visits, ranks_of}
use Rattle.psa_outcome.specs.GroupRanksExample.{group_gate_model, numbered}
use Rattle.psa_outcome.proofs.Analysed.{visits-suc, out-gate, out-basic}

-- the layer of a connective
pub out-connective : (operator : Connective) (least most : ℕ) (arguments : List Formula) → out-Formula (formula.Connective operator least most arguments) ≡ Formula-F.Connective operator least most arguments
out-connective operator least most arguments =
    ap out-Formula (sym (formula.rolls-Connective operator least most arguments)) ∙ out-roll-Formula (Formula-F.Connective operator least most arguments)

-- the subsets that hold A, those that hold B, those that hold C
visited : (n : ℕ) → visits (suc (suc (suc n))) (expanded_of true group_gate_model) (formula.Gate (record { 0 = 0 })) ≡ 0 ∷ 3 ∷ 4 ∷ 6 ∷ 1 ∷ 3 ∷ 5 ∷ 6 ∷ 2 ∷ 4 ∷ 5 ∷ 6 ∷ []
visited n = simp (visits-suc, out-gate, out-connective, out-basic) refl

-- each subset at its first place
pub ranked : ranks_of (expanded_of true group_gate_model) (TopEvent (record { 0 = 0 })) ≡ numbered (0 ∷ 3 ∷ 4 ∷ 6 ∷ 1 ∷ 5 ∷ 2 ∷ [])
ranked = rw (visited 498) refl

-- the names that a report prints for them
pub named : map (ranked_text (expanded_of true group_gate_model) (numbered (0 ∷ 3 ∷ 4 ∷ 6 ∷ 1 ∷ 5 ∷ 2 ∷ []))) (0 ∷ 1 ∷ 2 ∷ 3 ∷ 4 ∷ 5 ∷ 6 ∷ []) ≡ codes "[A]" ∷ codes "[A B]" ∷ codes "[A C]" ∷ codes "[A B C]" ∷ codes "[B]" ∷ codes "[B C]" ∷ codes "[C]" ∷ []
named = refl
