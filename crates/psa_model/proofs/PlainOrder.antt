-- A model without groups has its basic events as expanded events.
use Rattle.std.proofs.Common.{◌≡◌, Bool, List, [], ◌∷◌, map, refl, ap, ◌∙◌}
use Rattle.std.specs.List.{flat_map}
use Rattle.psa_model.specs.declared.expanded.ExpandedEvent.{ExpandedEvent}
use Rattle.psa_model.specs.declared.expanded.ExpandedEvent.TheVariants as expanded
use Rattle.psa_model.specs.declared.ids.EventId.{EventId}
use Rattle.psa_model.specs.declared.model.Model.{Model}
use Rattle.psa_model.specs.declared.model.Valued.{Valued}
use Rattle.psa_model.specs.declared.model.Valued.TheVariants as valued
use Rattle.psa_model.specs.Expansion.{events_of_valued, expanded_of}

each-plain : (on : Bool) (model : Model) (ids : List EventId) → flat_map (events_of_valued model on) (map (λ id. valued.Basic id) ids) ≡ map (λ id. expanded.Basic id) ids
each-plain on model [] = refl
each-plain on model (id ∷ ids) = ap (λ (l : List ExpandedEvent). expanded.Basic id ∷ l) (each-plain on model ids)

-- expanded or not, the events are the basic events, in their order
pub plain : (on : Bool) (model : Model) (ids : List EventId) → model.order ≡ map (λ id. valued.Basic id) ids → (expanded_of on model).events ≡ map (λ id. expanded.Basic id) ids
plain on model ids h = ap (λ (order : List Valued). flat_map (events_of_valued model on) order) h ∙ each-plain on model ids
