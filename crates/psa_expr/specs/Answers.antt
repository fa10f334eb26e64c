-- What an evaluation gives and keeps: for every number of levels that is enough, the interval at these levels; and
-- every value that is known of a parameter is the value of that parameter. This project's own.
use Rattle.std.specs.Prelude.{◌≡◌, ℕ, Bool, true, List, Option, Some, None, Ok}
use Rattle.std.specs.List.{slice_get}
use Rattle.psa_number.specs.Ends.{Ends}
use Rattle.psa_number.specs.Scaled.{Scaled}
use Rattle.psa_model.specs.declared.expression.Expression.{Expression}
use Rattle.psa_model.specs.declared.expression.Expression.TheVariants as expression
use Rattle.psa_model.specs.declared.model.Model.{Model}
use Rattle.psa_model.specs.Values.{Computed, interval_value, value_within}

-- what is known at a place
abbrev pub known_at : Option (Option Ends) → Option Ends
known_at None = None
known_at (Some value) = value

abbrev pub recorded : List (Option Ends) → ℕ → Option Ends
recorded known place = known_at (slice_get known place)

-- the parameter at a place
abbrev pub parameter : ℕ → Expression
parameter place = expression.Parameter (record { 0 = place })

abbrev pub AllRight : Scaled → Model → List (Option Ends) → Type 0
AllRight mission model known =
    (place : ℕ) (value : Ends) → recorded known place ≡ Some value
    → (n : ℕ) → value_within n model (parameter place) ≡ true
    → interval_value n mission model (parameter place) ≡ Ok value

pub record Answered {A : Type 0} (mission : Scaled) (model : Model) (enough : ℕ → Bool) (value : ℕ → A) (known : List (Option Ends)) (result : A) : Type 0 where
  pub right : AllRight mission model known
  pub is : (n : ℕ) → enough n ≡ true → result ≡ value n

-- whether so many levels are enough for an expression, and its interval at them
abbrev pub is_enough : Model → Expression → ℕ → Bool
is_enough model e n = value_within n model e

abbrev pub interval_at : Scaled → Model → Expression → ℕ → Computed
interval_at mission model e n = interval_value n mission model e
