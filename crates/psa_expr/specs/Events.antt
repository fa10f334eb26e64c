-- What is asked of a model, and what is answered of an event. This project's own.
use Rattle.std.specs.Prelude.{◌≡◌, ◌≤◌, ℕ, true, List, Option, Some, Result, Ok, All, length, IfSome}
use Rattle.std.specs.List.{slice_get}
use Rattle.psa_number.specs.Ends.{Ends}
use Rattle.psa_number.specs.Scaled.{Scaled}
use Rattle.psa_model.specs.declared.expanded.ExpandedEvent.TheVariants.{Shared}
use Rattle.psa_model.specs.declared.fault.FaultKind.{FaultKind}
use Rattle.psa_model.specs.declared.limits.TheConstants.{MAX_MEMBERS}
use Rattle.psa_model.specs.declared.model.Group.{Group}
use Rattle.psa_model.specs.declared.model.Model.{Model}
use Rattle.psa_model.specs.Expansion.{size_of}
use Rattle.psa_model.specs.Values.{event_interval, value_within}
use Rattle.psa_expr.specs.declared.events.SizeValue.{SizeValue}
use Rattle.psa_expr.specs.Answers.{AllRight}
use Rattle.psa_expr.specs.Terms.{has_values, own_levels}

-- the expressions of events and groups are within their levels, so no chain of parameters leads back, and groups
-- have at most so many members
pub record HaveValues (model : Model) : Type 0 where
  pub basics : All (λ basic. IfSome basic.expression (λ e. value_within own_levels model e ≡ true)) model.basics
  pub groups : All (λ group. (length group.members ≤ MAX_MEMBERS) × (has_values model group ≡ true)) model.groups

-- an event's interval or what is wrong with it, with what is known of parameters after it
pub record EventAnswered (mission : Scaled) (model : Model) (value : Result Ends FaultKind) (known : List (Option Ends)) (result : Result Ends FaultKind) : Type 0 where
  pub right : AllRight mission model known
  pub is : result ≡ value

-- the value that is kept is that of each subset of its size
abbrev pub ServesItsSize : Scaled → Model → Option SizeValue → Type 0
ServesItsSize mission model last =
    IfSome last (λ kept.
    (group : Group) → Some group ≡ slice_get model.groups kept.group.0
    → (subset : ℕ) → kept.size ≡ size_of (length group.members) subset
    → event_interval mission model (Shared kept.group subset) ≡ Ok kept.value)
