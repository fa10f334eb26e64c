-- The paths of the example models.
use Prim.Native.Nat.compare
use Rattle.std.proofs.Common.{◌≡◌, ℕ, suc, sub-one, List, [], ◌∷◌, None, refl, sym, ap, ◌∙◌}
use Rattle.std.specs.Prelude.{Bool}
use Rattle.psa_model.specs.declared.formula.Connective.{Connective}
use Rattle.psa_model.specs.declared.formula.Formula.{Formula, map-Formula}
use Rattle.psa_model.specs.declared.formula.Formula.TheOpen.{Formula-F}
use Rattle.psa_model.specs.declared.formula.Formula.TheFolds.{fold-Formula, fold-roll-Formula}
use Rattle.psa_model.specs.declared.formula.Formula.TheVariants as formula
use Rattle.psa_model.specs.declared.ids.EventId.{EventId}
use Rattle.psa_model.specs.declared.ids.HouseId.{HouseId}
use Rattle.psa_model.specs.declared.targets.PathStep.{PathStep}
use Rattle.psa_model.specs.declared.targets.Target.TheVariants as target
use Rattle.psa_model.specs.Paths.{Travelled, Arrival, arrives, arrivals}
use Rattle.psa_model.specs.PathTargets.{targets_of}
use Rattle.psa_model.specs.PathFaults.{walk_fault}
use Rattle.psa_model.specs.Targets.{refers_step, top_targets}
use Rattle.psa_model.specs.ConditionExample.{condition_model, condition_start, collects, sequence_target}
use Rattle.psa_model.specs.EventTreeExample.{event_tree_model, first_tree, sets_house}
use Rattle.psa_model.proofs.WalkForms.{out-collect, out-set, out-rule, out-if, out-to, out-fork, test-initiating, test-functional, test-all, carried-nil, carried-suc, arrivals-suc}

-- no step was made yet
abbrev pub at_start : Travelled
at_start = record { steps = []; forks = [] }

-- an arrival at the sequence at a place, with these steps
abbrev pub arriving : ℕ → List PathStep → Arrival
arriving place path = arrives (record { sequence = record { 0 = place }; path = path })

walked : (n l : ℕ) → arrivals (suc (suc n)) condition_model 0 (suc (suc (suc (suc l)))) condition_start at_start ≡ arriving 0 (collects 1 ∷ []) ∷ arriving 0 (collects 0 ∷ []) ∷ []
walked n l = simp (arrivals-suc, carried-suc, carried-nil, out-fork, out-to, out-collect, out-rule, out-if, test-initiating, test-functional, test-all) refl

walked-second : (n l : ℕ) → arrivals (suc (suc n)) condition_model 1 (suc (suc (suc (suc l)))) condition_start at_start ≡ arriving 0 (collects 1 ∷ []) ∷ arriving 0 (collects 1 ∷ []) ∷ []
walked-second n l = simp (arrivals-suc, carried-suc, carried-nil, out-fork, out-to, out-collect, out-rule, out-if, test-initiating, test-functional, test-all) refl

-- in the example with a condition, no walk has a fault
pub condition-fault : walk_fault condition_model ≡ None
condition-fault = rw (walked 498 252, walked-second 498 252) refl

-- the targets of the example with a condition, each with its paths
pub condition-targets : targets_of condition_model ≡ sequence_target 0 0 ((collects 1 ∷ []) ∷ (collects 0 ∷ []) ∷ []) ∷ sequence_target 1 0 ((collects 1 ∷ []) ∷ (collects 1 ∷ []) ∷ []) ∷ []
condition-targets = rw (walked 498 252, walked-second 498 252) refl

-- ---- event trees with a fork in a fork and a link

refers-basic : (gate : ℕ) (id : EventId) → fold-Formula Bool (refers_step gate) (formula.Basic id) ≡ refers_step gate (Formula-F.Basic id)
refers-basic gate id = ap (fold-Formula Bool (refers_step gate)) (sym (formula.rolls-Basic id)) ∙ fold-roll-Formula Bool (refers_step gate) (Formula-F.Basic id)

refers-house : (gate : ℕ) (id : HouseId) → fold-Formula Bool (refers_step gate) (formula.House id) ≡ refers_step gate (Formula-F.House id)
refers-house gate id = ap (fold-Formula Bool (refers_step gate)) (sym (formula.rolls-House id)) ∙ fold-roll-Formula Bool (refers_step gate) (Formula-F.House id)

refers-connective : (gate : ℕ) (operator : Connective) (least most : ℕ) (arguments : List Formula) → fold-Formula Bool (refers_step gate) (formula.Connective operator least most arguments) ≡ refers_step gate (map-Formula Formula Bool (fold-Formula Bool (refers_step gate)) (Formula-F.Connective operator least most arguments))
refers-connective gate operator least most arguments =
    ap (fold-Formula Bool (refers_step gate)) (sym (formula.rolls-Connective operator least most arguments))
    ∙ fold-roll-Formula Bool (refers_step gate) (Formula-F.Connective operator least most arguments)

tree-tops : top_targets event_tree_model ≡ target.TopEvent (record { 0 = 0 }) ∷ target.TopEvent (record { 0 = 1 }) ∷ []
tree-tops = simp (refers-basic, refers-house, refers-connective) refl

tree-walked : (n l : ℕ) → arrivals (suc (suc (suc (suc n)))) event_tree_model 0 (suc (suc (suc (suc (suc l))))) first_tree at_start ≡ arriving 0 (collects 0 ∷ []) ∷ arriving 1 (collects 1 ∷ sets_house ∷ collects 2 ∷ []) ∷ arriving 1 (collects 1 ∷ collects 3 ∷ []) ∷ arriving 3 (collects 1 ∷ sets_house ∷ collects 4 ∷ []) ∷ []
tree-walked n l = simp (arrivals-suc, carried-suc, carried-nil, out-fork, out-to, out-collect, out-set, compare.suc-zero, sub-one) refl

-- in the example of event trees, no walk has a fault
pub tree-fault : walk_fault event_tree_model ≡ None
tree-fault = rw (tree-walked 496 251) refl

-- the targets of the example of event trees, each with its paths
pub tree-targets : targets_of event_tree_model ≡ target.TopEvent (record { 0 = 0 }) ∷ target.TopEvent (record { 0 = 1 }) ∷ sequence_target 0 0 ((collects 0 ∷ []) ∷ []) ∷ sequence_target 0 1 ((collects 1 ∷ sets_house ∷ collects 2 ∷ []) ∷ (collects 1 ∷ collects 3 ∷ []) ∷ []) ∷ sequence_target 0 3 ((collects 1 ∷ sets_house ∷ collects 4 ∷ []) ∷ []) ∷ []
tree-targets = rw (tree-tops, tree-walked 496 251) refl
