-- The intervals of the events of a model lie within 0 and 1, and there is one for each event.
use Rattle.std.proofs.Common.{◌≡◌, pos, Bool, true, false, suc, List, [], ◌∷◌, Option, None, Some, Ok, Err, length, int_lt, ◌||◌, if◌then◌else◌, refl, ap, subst, arith}
use Rattle.std.proofs.lemmas.Int.{ints, clamps}
use Rattle.std.proofs.lemmas.List.Elements.{All-from_recursion}
use Rattle.std.specs.List.{All, AllByRecursion}
use Rattle.psa_number.specs.Ends.{Ends}
use Rattle.psa_number.specs.Operations.{unit_ends, IsInUnit}
use Rattle.psa_number.specs.Scaled.{Scaled}
use Rattle.psa_number.specs.Units.{units}
use Rattle.psa_model.specs.declared.expanded.Expanded.{Expanded}
use Rattle.psa_model.specs.declared.expanded.ExpandedEvent.{ExpandedEvent}
use Rattle.psa_model.specs.declared.expression.Expression.{Expression}
use Rattle.psa_model.specs.declared.fault.FaultKind.TheVariants as fault
use Rattle.psa_model.specs.declared.limits.TheConstants.{MAX_VALUE_LEVELS}
use Rattle.psa_model.specs.declared.model.Model.{Model}
use Rattle.psa_model.specs.Expansion.{expression_of}
use Rattle.psa_model.specs.Values.{Computed, interval_value, finished, finished_value, event_interval, place_of_event, values_from, values_of}
use Rattle.psa_model.proofs.HeldValues.{and-event-parts}

held-in : (a : Ends) → IsInUnit (unit_ends a)
held-in a = record { low = omega (arith, ints, clamps); high = omega (arith, ints, clamps) }

finished-case : (a b : Ends) (t : Bool) → (if t then Err fault.NotProbability else Ok (unit_ends a)) ≡ Ok b → IsInUnit b
finished-case a b true is = absurd (cc)
finished-case a b false is = let these : unit_ends a ≡ b = cc in subst (λ (e : Ends). IsInUnit e) these (held-in a)

finished-in : (computed : Computed) (b : Ends) → finished computed ≡ Ok b → IsInUnit b
finished-in (Err found) b is = absurd (cc)
finished-in (Ok a) b is = finished-case a b (int_lt (pos units) a.lo || int_lt a.hi (pos 0)) is

expression-in : (mission : Scaled) (model : Model) (found : Option Expression) (a : Ends) → finished_value mission model found ≡ Ok a → IsInUnit a
expression-in mission model None a is = absurd (cc)
expression-in mission model (Some e) a is = finished-in (interval_value MAX_VALUE_LEVELS mission model e) a is

events-in : (mission : Scaled) (model : Model) (events : List ExpandedEvent) (es : List Ends) → values_from mission model events ≡ Ok es → (length es ≡ length events) × AllByRecursion IsInUnit es
events-in mission model [] es is =
    let these : [] ≡ es = cc in subst (λ (l : List Ends). (length l ≡ 0) × AllByRecursion IsInUnit l) these (refl, tt)
events-in mission model (event ∷ events) es is =
    and-event-parts (place_of_event model event) (event_interval mission model event) (values_from mission model events) es is
    (λ l. (length l ≡ suc (length events)) × AllByRecursion IsInUnit l)
    (λ a more one others.
    let rest = events-in mission model events more others in
    (ap suc rest.0, (expression-in mission model (expression_of model event) a one, rest.1)))

-- over the events of the expanded model
pub values-in : (mission : Scaled) (expanded : Expanded) (values : List Ends) → values_of mission expanded ≡ Ok values → (length values ≡ length expanded.events) × All IsInUnit values
values-in mission expanded values is =
    let found = events-in mission expanded.model expanded.events values is in
    (found.0, All-from_recursion IsInUnit values found.1)
