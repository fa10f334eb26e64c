-- Faults with their positions in the document, and the one that stands first. (The order of the checks is this project's
-- own.)
use Rattle.std.specs.Prelude.{List, [], ◌∷◌, Option, Some, None, if◌then◌else◌}
use Rattle.psa_model.specs.Drafts.{Position, position_of, stands_before}
use Rattle.psa_model.specs.PathNames.{Text}
use Rattle.psa_model.specs.declared.fault.FaultKind.{FaultKind}
use Rattle.psa_model.specs.declared.fault.ModelFault.{ModelFault}
use Rattle.psa_model.specs.declared.ids.Place.{Place}
use Rattle.psa_names.specs.Outlines.{Entry}

-- a fault, and where it stands
pub record PlacedFault : Type 0 where
  pub position : Position
  pub fault : ModelFault

-- a fault with its position among the elements
abbrev pub fault_at : FaultKind → Position → Place → Text → PlacedFault
fault_at kind position place name =
    record { position = position; fault = record { kind = kind; file = place.file; line = place.line; name = name } }

-- a fault of a definition
abbrev pub fault_of : FaultKind → Entry → PlacedFault
fault_of kind one = fault_at kind (position_of one.definition) one.place one.name

-- the earlier of two faults by their positions
abbrev pub earlier : PlacedFault → Option PlacedFault → Option PlacedFault
earlier one None = Some one
earlier one (Some other) = if stands_before other.position one.position then Some other else Some one

-- the fault that stands first
abbrev pub earliest : List PlacedFault → Option PlacedFault
earliest [] = None
earliest (one ∷ others) = earlier one (earliest others)
