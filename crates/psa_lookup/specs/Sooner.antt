-- Faults as they are kept, and the one of two that stands first. (This project's own.)
use Rattle.std.specs.Prelude.{Option, Some, None, if◌then◌else◌}
use Rattle.psa_model.specs.Drafts.{stands_before}
use Rattle.psa_names.specs.PlacedFaults.{PlacedFault, fault_at}
use Rattle.psa_lookup.specs.declared.placed.Placed.{Placed}

abbrev pub placed_fault : Placed → PlacedFault
placed_fault one = fault_at one.kind (record { file = one.place.file; tag = one.tag }) one.place one.name.now

-- the first of two where they stand at one place
abbrev pub sooner_of : Option PlacedFault → Option PlacedFault → Option PlacedFault
sooner_of None other = other
sooner_of (Some one) None = Some one
sooner_of (Some one) (Some other) = if stands_before other.position one.position then Some other else Some one
