-- The quantities of events, exact and as intervals in units. (The operations are those of the Open-PSA Model
-- Exchange Format 2.0d; Taylor sums in place of the exponential function, and the rounding, are this project's own.)
-- Expressions lead through parameters to expressions, so values are by levels as truth is: a level for each element
-- and for each parameter entered. More levels than the depth change nothing.
use Rattle.std.specs.Prelude.{◌==◌, ℕ, zero, suc, Bool, true, false, List, [], ◌∷◌, Option, Some, None, Result, Ok, Err, pos, map, length, nat_le, int_lt, ◌&&◌, ◌||◌, if◌then◌else◌}
use Rattle.std.specs.List.{slice_get, list_all, fold}
use Rattle.std.specs.Option.{option_map, unwrap_or}
use Rattle.psa_number.specs.declared.fault.NumberFault.{NumberFault}
use Rattle.psa_number.specs.declared.fault.NumberFault.TheVariants as number
use Rattle.psa_number.specs.Scaled.{Scaled}
use Rattle.psa_number.specs.Units.{units}
use Rattle.psa_number.specs.Ends.{Ends}
use Rattle.psa_number.specs.Fraction.{Fraction, minus, plus, difference, times, quotient, held_in_unit, exponential_at, fraction_of}
use Rattle.psa_number.specs.Operations.{limited, negative_ends, sum_ends, difference_ends, product_ends, quotient_of, exponential_of, unit_ends, decimal_ends}
use Rattle.psa_model.specs.declared.expanded.Expanded.{Expanded}
use Rattle.psa_model.specs.declared.expanded.ExpandedEvent.{ExpandedEvent}
use Rattle.psa_model.specs.declared.expanded.ExpandedEvent.TheVariants.{Basic, Member, Shared}
use Rattle.psa_model.specs.declared.expression.Expression.{Expression}
use Rattle.psa_model.specs.declared.expression.Expression.TheOpen.{Expression-F}
use Rattle.psa_model.specs.declared.expression.Expression.TheViews.{out-Expression}
use Rattle.psa_model.specs.declared.expression.ExpressionOperator.{ExpressionOperator}
use Rattle.psa_model.specs.declared.expression.ExpressionOperator.TheVariants.{Neg, Add, Sub, Mul, Div, Exponential}
use Rattle.psa_model.specs.declared.fault.FaultKind.{FaultKind}
use Rattle.psa_model.specs.declared.fault.FaultKind.TheVariants as fault
use Rattle.psa_model.specs.declared.fault.ModelFault.{ModelFault}
use Rattle.psa_model.specs.declared.ids.Place.{Place}
use Rattle.psa_model.specs.declared.limits.TheConstants.{MAX_VALUE_LEVELS}
use Rattle.psa_model.specs.declared.model.Model.{Model}
use Rattle.psa_model.specs.declared.model.Parameter.{Parameter}
use Rattle.psa_model.specs.Expansion.{expression_of}
use Rattle.psa_model.specs.Faults.{fault_at}

-- ---- arguments

-- what is made of the only argument, and of the only two
abbrev pub of_only : {A B : Type 0} → B → (A → B) → List A → B
of_only none f (x ∷ []) = f x
of_only none f _ = none

-- what is made of exactly two values
abbrev pub of_both : {A B : Type 0} → B → (A → A → B) → List A → B
of_both none f (x ∷ y ∷ []) = f x y
of_both none f _ = none

-- what is made of a parameter's expression, or `none` where the parameter does not stand
abbrev pub at_parameter : {A : Type 0} → A → (Expression → A) → Option Parameter → A
at_parameter none f None = none
at_parameter none f (Some parameter) = f parameter.expression

-- the numbers of arguments that an operation may have
abbrev pub has_operands : ExpressionOperator → ℕ → Bool
has_operands Neg count = count == 1
has_operands Add count = nat_le 1 count
has_operands Sub count = nat_le 2 count
has_operands Mul count = nat_le 1 count
has_operands Div count = nat_le 2 count
has_operands Exponential count = count == 2

-- ---- exact values

-- 0 as a fraction
abbrev pub zero_fraction : Fraction
zero_fraction = record { num = pos 0; den = 1 }

-- the first, and each further one by the operation, from left to right
abbrev pub folded : (Fraction → Fraction → Fraction) → List Fraction → Fraction
folded f [] = zero_fraction
folded f (x ∷ xs) = fold f x xs

-- an operation on exact values; `terms` is the number of the last Taylor term
abbrev pub exact_operation : ℕ → ExpressionOperator → List Fraction → Fraction
exact_operation terms Neg values = of_only zero_fraction minus values
exact_operation terms Add values = folded plus values
exact_operation terms Sub values = folded difference values
exact_operation terms Mul values = folded times values
exact_operation terms Div values = folded quotient values
exact_operation terms Exponential values = of_both zero_fraction (exponential_at terms) values

-- the exact value of one element over those of its arguments
abbrev pub exact_layer : ℕ → Scaled → Model → (Expression → Fraction) → Expression-F Expression → Fraction
exact_layer terms mission model below (Expression-F.Number decimal) = fraction_of decimal
exact_layer terms mission model below (Expression-F.Parameter id) =
    at_parameter zero_fraction below (slice_get model.parameters id.0)
exact_layer terms mission model below Expression-F.MissionTime = fraction_of mission
exact_layer terms mission model below (Expression-F.Operation operator arguments) =
    exact_operation terms operator (map below arguments)

-- the exact value of an expression at a mission time, with Taylor sums to a number of terms
unfoldable pub exact_value : ℕ → ℕ → Scaled → Model → Expression → Fraction
exact_value zero terms mission model e = zero_fraction
exact_value (suc levels) terms mission model e =
    exact_layer terms mission model (λ g. exact_value levels terms mission model g) (out-Expression e)

-- the exact quantity of an event: the exact value held to 0 and 1
abbrev pub exact_quantity : ℕ → Scaled → Model → ExpandedEvent → Fraction
exact_quantity terms mission model event =
    held_in_unit (unwrap_or (option_map (exact_value MAX_VALUE_LEVELS terms mission model) (expression_of model event)) zero_fraction)

-- the exact quantities of the events by number
abbrev pub quantities_of : ℕ → Scaled → Expanded → List Fraction
quantities_of terms mission expanded = map (exact_quantity terms mission expanded.model) expanded.events

-- ---- intervals

-- an interval in units, or why an operation refuses
abbrev pub Computed : Type 0
Computed = Result Ends NumberFault

-- what no expression of a model that stands gives
abbrev pub no_value : Computed
no_value = Err number.NotDecimal

-- the values of all, or the fault of the first that has one
abbrev pub and_first : Computed → Result (List Ends) NumberFault → Result (List Ends) NumberFault
and_first (Err f) rest = Err f
and_first (Ok x) (Err f) = Err f
and_first (Ok x) (Ok xs) = Ok (x ∷ xs)

-- the intervals of all arguments, or the first fault
abbrev pub all_computed : List Computed → Result (List Ends) NumberFault
all_computed [] = Ok []
all_computed (x ∷ xs) = and_first x (all_computed xs)

-- the first, and each further one by the operation, from left to right; the first fault stays
abbrev pub applied : (Ends → Ends → Computed) → Computed → Ends → Computed
applied f (Err found) y = Err found
applied f (Ok x) y = f x y

-- an operation of two intervals, folded from the left
abbrev pub folded_ends : (Ends → Ends → Computed) → List Ends → Computed
folded_ends f [] = no_value
folded_ends f (x ∷ xs) = fold (applied f) (Ok x) xs

-- an operation over the intervals of its arguments
abbrev pub interval_operation : ExpressionOperator → List Ends → Computed
interval_operation Neg values = of_only no_value (λ a. Ok (negative_ends a)) values
interval_operation Add values = folded_ends (λ a b. limited (sum_ends a b)) values
interval_operation Sub values = folded_ends (λ a b. limited (difference_ends a b)) values
interval_operation Mul values = folded_ends (λ a b. limited (product_ends a b)) values
interval_operation Div values = folded_ends quotient_of values
interval_operation Exponential values = of_both no_value exponential_of values

-- all arguments are computed from left to right before the operation begins
abbrev pub on_values : ExpressionOperator → Result (List Ends) NumberFault → Computed
on_values operator (Err found) = Err found
on_values operator (Ok values) = interval_operation operator values

-- the interval of one element over those of its arguments
abbrev pub interval_layer : Scaled → Model → (Expression → Computed) → Expression-F Expression → Computed
interval_layer mission model below (Expression-F.Number decimal) = Ok (decimal_ends decimal)
interval_layer mission model below (Expression-F.Parameter id) =
    at_parameter no_value below (slice_get model.parameters id.0)
interval_layer mission model below Expression-F.MissionTime = Ok (decimal_ends mission)
interval_layer mission model below (Expression-F.Operation operator arguments) =
    on_values operator (all_computed (map below arguments))

-- the interval of an expression at a mission time, or the fault of the first operation that has one
unfoldable pub interval_value : ℕ → Scaled → Model → Expression → Computed
interval_value zero mission model e = no_value
interval_value (suc levels) mission model e =
    interval_layer mission model (λ g. interval_value levels mission model g) (out-Expression e)

-- ---- levels

-- The same recursion as a test: parameters stand, operations have their numbers of arguments, and the depth is at
-- most the number of levels; so no chain of parameters leads back.
abbrev pub value_within_layer : Model → (Expression → Bool) → Expression-F Expression → Bool
value_within_layer model below (Expression-F.Number decimal) = true
value_within_layer model below (Expression-F.Parameter id) = at_parameter false below (slice_get model.parameters id.0)
value_within_layer model below Expression-F.MissionTime = true
value_within_layer model below (Expression-F.Operation operator arguments) =
    has_operands operator (length arguments) && list_all below arguments

unfoldable pub value_within : ℕ → Model → Expression → Bool
value_within zero model e = false
value_within (suc levels) model e = value_within_layer model (λ g. value_within levels model g) (out-Expression e)

-- ---- events

-- a finished interval that is all above 1 or all below 0 is no probability; else it is held to 0 and 1
abbrev pub value_fault_kind : NumberFault → FaultKind
value_fault_kind number.ZeroDivisor = fault.ZeroDivisor
value_fault_kind number.Negative = fault.NegativeRate
value_fault_kind _ = fault.TooLarge

-- the interval of an event from that of its expression: held to 0 and 1, or the fault
abbrev pub finished : Computed → Result Ends FaultKind
finished (Err found) = Err (value_fault_kind found)
finished (Ok a) =
    if int_lt (pos units) a.lo || int_lt a.hi (pos 0) then Err fault.NotProbability else Ok (unit_ends a)

-- the interval of an event by its expression, or the fault where there is none
abbrev pub finished_value : Scaled → Model → Option Expression → Result Ends FaultKind
finished_value mission model None = Err fault.NoValue
finished_value mission model (Some e) = finished (interval_value MAX_VALUE_LEVELS mission model e)

-- the interval of an event, or what is wrong with it
abbrev pub event_interval : Scaled → Model → ExpandedEvent → Result Ends FaultKind
event_interval mission model event = finished_value mission model (expression_of model event)

-- where a fault of an event's value stands, and its name: those of the basic event, or of the group
abbrev pub place_of_event : Model → ExpandedEvent → Option (Place × List ℕ)
place_of_event model (Basic id) = option_map (λ basic. (basic.place, basic.name)) (slice_get model.basics id.0)
place_of_event model (Member id place) = option_map (λ group. (group.place, group.name)) (slice_get model.groups id.0)
place_of_event model (Shared id subset) = option_map (λ group. (group.place, group.name)) (slice_get model.groups id.0)

-- the intervals of all events, or the fault of the first event that has one
abbrev pub and_event : Option (Place × List ℕ) → Result Ends FaultKind → Result (List Ends) ModelFault → Result (List Ends) ModelFault
and_event there (Err kind) rest = Err (fault_at kind there)
and_event there (Ok x) (Err found) = Err found
and_event there (Ok x) (Ok xs) = Ok (x ∷ xs)

-- the intervals of some events in their order, or the first fault
abbrev pub values_from : Scaled → Model → List ExpandedEvent → Result (List Ends) ModelFault
values_from mission model [] = Ok []
values_from mission model (event ∷ events) =
    and_event (place_of_event model event) (event_interval mission model event) (values_from mission model events)

-- the interval of each event, or the first fault
abbrev pub values_of : Scaled → Expanded → Result (List Ends) ModelFault
values_of mission expanded = values_from mission expanded.model expanded.events
