-- The fault of a model where it stands. This project's own.
use Rattle.std.specs.Prelude.{ℕ, List, [], Option, Some, None}
use Rattle.psa_model.specs.declared.fault.FaultKind.{FaultKind}
use Rattle.psa_model.specs.declared.fault.ModelFault.{ModelFault}
use Rattle.psa_model.specs.declared.ids.Place.{Place}

-- a fault of this kind at a place, with the name that its text prints
abbrev pub fault_at : FaultKind → Option (Place × List ℕ) → ModelFault
fault_at kind None = record { kind = kind; file = 0; line = 0; name = [] }
fault_at kind (Some there) = record { kind = kind; file = there.0.file; line = there.0.line; name = there.1 }
