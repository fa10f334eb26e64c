-- The fault of a target with too many ranked events. The limit is this project's own.
use Rattle.std.specs.Prelude.{ℕ, List, [], ◌∷◌, Option, Some, None, length, nat_lt, if◌then◌else◌}
use Rattle.std.specs.List.{slice_get}
use Rattle.std.specs.Option.{option_map, option_or}
use Rattle.psa_model.specs.declared.expanded.Expanded.{Expanded}
use Rattle.psa_model.specs.declared.fault.FaultKind.TheVariants.{TooManyEvents}
use Rattle.psa_model.specs.declared.fault.ModelFault.{ModelFault}
use Rattle.psa_model.specs.declared.ids.Place.{Place}
use Rattle.psa_model.specs.declared.limits.TheConstants.{MAX_EVENTS}
use Rattle.psa_model.specs.declared.model.Model.{Model}
use Rattle.psa_model.specs.declared.targets.Target.{Target}
use Rattle.psa_model.specs.declared.targets.Target.TheVariants.{TopEvent, Sequence}
use Rattle.psa_model.specs.Faults.{fault_at}
use Rattle.psa_model.specs.Ranks.{ranks_of}

-- where a fault of a target stands, and its name: those of the gate, or of the sequence
abbrev pub place_of_target : Model → Target → Option (Place × List ℕ)
place_of_target model (TopEvent gate) = option_map (λ g. (g.place, g.name)) (slice_get model.gates gate.0)
place_of_target model (Sequence initiating sequence paths) =
    option_map (λ s. (s.place, s.name)) (slice_get model.sequences sequence.0)

-- the fault of one target
abbrev pub too_many_events : Expanded → Target → Option ModelFault
too_many_events expanded target =
    if nat_lt MAX_EVENTS (length (ranks_of expanded target))
    then Some (fault_at TooManyEvents (place_of_target expanded.model target)) else None

-- the fault of the first of some targets that has one
abbrev pub rank_fault : Expanded → List Target → Option ModelFault
rank_fault expanded [] = None
rank_fault expanded (target ∷ targets) = option_or (too_many_events expanded target) (rank_fault expanded targets)
