-- The quotient of a top event: its model in which each outer module is an event. This project's own.
use Rattle.std.specs.Prelude.{◌≡◌, ◌==◌, ◌<◌, ℕ, suc, true, List, [], ◌∷◌, ◌++◌, Option, Some, None, codes, length, map, if◌then◌else◌}
use Rattle.std.specs.List.{slice_get, filter_map}
use Rattle.std.specs.Option.{option_map}
use Rattle.psa_model.specs.declared.expanded.Expanded.{Expanded}
use Rattle.psa_model.specs.declared.expanded.ExpandedEvent.{ExpandedEvent}
use Rattle.psa_model.specs.declared.expanded.ExpandedEvent.TheVariants as event
use Rattle.psa_model.specs.declared.formula.Formula.{Formula}
use Rattle.psa_model.specs.declared.formula.Formula.TheVariants as variant
use Rattle.psa_model.specs.declared.ids.EventId.{EventId}
use Rattle.psa_model.specs.declared.model.BasicEvent.{BasicEvent}
use Rattle.psa_model.specs.declared.model.Gate.{Gate}
use Rattle.psa_model.specs.declared.model.Model.{Model}
use Rattle.psa_model.specs.declared.model.Valued.{Valued}
use Rattle.psa_model.specs.declared.model.Valued.TheVariants as valued
use Rattle.psa_logic.specs.Sets.{Has}
use Rattle.psa_model.specs.Events.{covers}
use Rattle.psa_model.specs.Truth.{IsResolved}
use Rattle.psa_modules.specs.OuterModules.{outer_modules}

-- the place of a gate among some, where they begin at a place
abbrev pub place_among : ℕ → List ℕ → ℕ → Option ℕ
place_among from [] gate = None
place_among from (one ∷ more) gate = if one == gate then Some from else place_among (suc from) more gate

-- a gate whose formula is the basic event that is added for it, where one is
abbrev pub with_event : Gate → Option ℕ → Gate
with_event gate None = gate
with_event gate (Some basic) = record gate { formula = variant.Basic (record { 0 = basic }) }

-- the gates of a model, the first of them at a place, where the event of each module is added from a number on
abbrev pub gates_with_events : ℕ → List ℕ → ℕ → List Gate → List Gate
gates_with_events added modules place [] = []
gates_with_events added modules place (gate ∷ gates) =
    with_event gate (place_among added modules place) ∷ gates_with_events added modules (suc place) gates

-- the event that is added for a gate: `<NAME>`, at the place of the gate, without an expression
abbrev pub added_event : Gate → BasicEvent
added_event gate = record { name = codes "<" ++ gate.name ++ codes ">"; place = gate.place; expression = None }

-- the events that are added for the modules
abbrev pub added_events : Model → List ℕ → List BasicEvent
added_events model modules = filter_map (λ gate. option_map added_event (slice_get model.gates gate)) modules

-- the numbers of the added events, from a number on: one for each module
abbrev pub added_ids : ℕ → List ℕ → List EventId
added_ids from [] = []
added_ids from (gate ∷ modules) = record { 0 = from } ∷ added_ids (suc from) modules

-- The model in which the formula of each module is an added event. These stand after all others, in the order of the
-- modules.
abbrev pub model_with_events : List ℕ → Model → Model
model_with_events modules model = record model {
  gates = gates_with_events (length model.basics) modules 0 model.gates;
  basics = model.basics ++ added_events model modules;
  order = model.order ++ map valued.Basic (added_ids (length model.basics) modules);
}

-- the same with its events
abbrev pub with_events : List ℕ → Expanded → Expanded
with_events modules expanded = record {
  model = model_with_events modules expanded.model;
  events = expanded.events ++ map event.Basic (added_ids (length expanded.model.basics) modules);
}

-- the quotient of a top event
abbrev pub quotient_of : Expanded → ℕ → Expanded
quotient_of expanded top = with_events (outer_modules expanded top) expanded

-- each expanded event is that of basic events of the model
abbrev pub IsOfBasics : Expanded → Type 0
IsOfBasics expanded =
    (basic : ℕ) (one : ExpandedEvent) → Has expanded.events one → covers expanded.model basic one ≡ true
    → basic < length expanded.model.basics

-- What the laws of modules ask of a model with its events: references stand, and events are those of basic events.
pub record IsExpansion (expanded : Expanded) : Type 0 where
  pub resolved : IsResolved expanded.model
  pub basics : IsOfBasics expanded
