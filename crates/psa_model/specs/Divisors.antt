-- Expressions that divide by no 0: the exact value of each divisor in them, and in the parameters that they reach, is
-- not 0. This project's own.
use Rattle.std.specs.Prelude.{ℕ, ℤ, pos, zero, suc, Bool, true, false, List, [], ◌∷◌, map, ◌&&◌}
use Rattle.std.specs.List.{slice_get, list_all}
use Rattle.std.specs.Option.{option_map, unwrap_or}
use Rattle.psa_number.specs.Fraction.{Fraction}
use Rattle.psa_number.specs.Scaled.{Scaled}
use Rattle.psa_model.specs.declared.expanded.Expanded.{Expanded}
use Rattle.psa_model.specs.declared.expanded.ExpandedEvent.{ExpandedEvent}
use Rattle.psa_model.specs.declared.expression.Expression.{Expression}
use Rattle.psa_model.specs.declared.expression.Expression.TheOpen.{Expression-F}
use Rattle.psa_model.specs.declared.expression.Expression.TheViews.{out-Expression}
use Rattle.psa_model.specs.declared.expression.ExpressionOperator.{ExpressionOperator}
use Rattle.psa_model.specs.declared.expression.ExpressionOperator.TheVariants.{Div}
use Rattle.psa_model.specs.declared.limits.TheConstants.{MAX_VALUE_LEVELS}
use Rattle.psa_model.specs.declared.model.Model.{Model}
use Rattle.psa_model.specs.Expansion.{expression_of}
use Rattle.psa_model.specs.Values.{at_parameter, exact_value}

-- a number other than 0
abbrev pub is_nonzero_number : ℤ → Bool
is_nonzero_number (pos zero) = false
is_nonzero_number _ = true

-- a fraction other than 0
abbrev pub is_nonzero : Fraction → Bool
is_nonzero x = is_nonzero_number x.num

-- the values that an operation divides by: all but the first of a division
abbrev pub divisors_in : ExpressionOperator → List Fraction → List Fraction
divisors_in Div (dividend ∷ divisors) = divisors
divisors_in _ _ = []

-- one element divides by no 0, and neither does what stands below it
abbrev pub divides_layer : Model → (Expression → Fraction) → (Expression → Bool) → Expression-F Expression → Bool
divides_layer model exact below (Expression-F.Number decimal) = true
divides_layer model exact below (Expression-F.Parameter id) = at_parameter false below (slice_get model.parameters id.0)
divides_layer model exact below Expression-F.MissionTime = true
divides_layer model exact below (Expression-F.Operation operator arguments) =
    list_all below arguments && list_all is_nonzero (divisors_in operator (map exact arguments))

-- an expression within so many levels divides by no 0, at a mission time and with Taylor sums to a number of terms
unfoldable pub divides_rightly : ℕ → ℕ → Scaled → Model → Expression → Bool
divides_rightly zero terms mission model e = false
divides_rightly (suc levels) terms mission model e =
    divides_layer model (λ g. exact_value levels terms mission model g) (λ g. divides_rightly levels terms mission model g) (out-Expression e)

-- an event has an expression, which divides by no 0
abbrev pub event_divides_rightly : ℕ → Scaled → Model → ExpandedEvent → Bool
event_divides_rightly terms mission model event =
    unwrap_or (option_map (divides_rightly MAX_VALUE_LEVELS terms mission model) (expression_of model event)) false

-- the expressions of all events divide by no 0
abbrev pub divide_rightly : ℕ → Scaled → Expanded → Bool
divide_rightly terms mission expanded = list_all (event_divides_rightly terms mission expanded.model) expanded.events
