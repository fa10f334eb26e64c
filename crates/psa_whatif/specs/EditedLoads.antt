-- What is loaded of a model, after edits. This project's own.
use Rattle.std.specs.Prelude.{◌==◌, ℕ, Bool, false, List, [], ◌∷◌, Option, if◌then◌else◌, option_map}
use Rattle.psa_number.specs.Ends.{Ends}
use Rattle.psa_number.specs.Operations.{decimal_ends, unit_ends}
use Rattle.psa_model.specs.declared.expanded.Expanded.{Expanded}
use Rattle.psa_model.specs.declared.expanded.ExpandedEvent.{ExpandedEvent}
use Rattle.psa_model.specs.declared.expanded.ExpandedEvent.TheVariants.{Basic, Member, Shared}
use Rattle.psa_outcome.specs.declared.loaded.Loaded.{Loaded}
use Rattle.psa_whatif.specs.Edits.{Edit, house, value, with_edit}

-- an event is the basic event with an id
abbrev pub is_basic : ℕ → ExpandedEvent → Bool
is_basic id (Basic other) = other.0 == id
is_basic id (Member group place) = false
is_basic id (Shared group subset) = false

-- the intervals of some events, where the basic event with an id has got this one
abbrev pub revalued : ℕ → Ends → List ExpandedEvent → List Ends → List Ends
revalued id interval [] values = values
revalued id interval (event ∷ events) [] = []
revalued id interval (event ∷ events) (one ∷ values) =
    (if is_basic id event then interval else one) ∷ revalued id interval events values

-- the intervals of the events after an edit
abbrev pub values_with : Edit → List ExpandedEvent → Option (List Ends) → Option (List Ends)
values_with (house id state) events values = values
values_with (value id number) events values = option_map (revalued id (unit_ends (decimal_ends number)) events) values

-- the model with its events after an edit, which leaves the events
abbrev pub expanded_with : Edit → Expanded → Expanded
expanded_with edit expanded = record { model = with_edit edit expanded.model; events = expanded.events }

-- what is loaded after an edit: events, targets and ranks stay
abbrev pub loaded_with : Edit → Loaded → Loaded
loaded_with edit loaded = record {
  settings = loaded.settings;
  expanded = expanded_with edit loaded.expanded;
  targets = loaded.targets;
  ranks = loaded.ranks;
  values = values_with edit loaded.expanded.events loaded.values;
}

-- what is loaded after some edits, of which the latest stands first
abbrev pub loaded_after : List Edit → Loaded → Loaded
loaded_after [] loaded = loaded
loaded_after (edit ∷ earlier) loaded = loaded_with edit (loaded_after earlier loaded)
