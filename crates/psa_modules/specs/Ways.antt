-- The ways from a formula to events that do not lead through a gate. This project's own.
use Rattle.std.specs.Prelude.{ℕ, zero, suc, List, [], if◌then◌else◌}
use Rattle.psa_model.specs.declared.expanded.Expanded.{Expanded}
use Rattle.psa_model.specs.declared.formula.Formula.{Formula}
use Rattle.psa_model.specs.declared.formula.Formula.TheViews.{out-Formula}
use Rattle.psa_model.specs.declared.formula.Formula.TheVariants as variant
use Rattle.psa_model.specs.declared.model.TheConstants.{MAX_DEPTH}
use Rattle.psa_model.specs.Ranks.{visits_layer}
use Rattle.psa_modules.specs.Occurrences.{is_gate}

-- the events that are met in a formula where one gate is never entered
unfoldable pub visits_around : ℕ → Expanded → ℕ → Formula → List ℕ
visits_around zero expanded gate f = []
visits_around (suc levels) expanded gate f =
    if is_gate gate f then [] else visits_layer expanded (λ g. visits_around levels expanded gate g) (out-Formula f)

-- the events that a top event reaches around a gate
abbrev pub events_around : Expanded → ℕ → ℕ → List ℕ
events_around expanded top gate =
    visits_around (suc MAX_DEPTH) expanded gate (variant.Gate (record { 0 = top }))
