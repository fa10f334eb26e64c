-- The expanded events of each basic event, looked up by its place.
use Rattle.std.specs.Prelude.{◌≡◌, ◌==◌, ◌<◌, ◌-◌, ℕ, zero, suc, Bool, List, [], ◌∷◌, ◌++◌, Some, length, get_or, nat_lt, ◌&&◌, if◌then◌else◌}
use Rattle.std.specs.List.{slice_get}
use Rattle.psa_model.specs.declared.expanded.Expanded.{Expanded}
use Rattle.psa_model.specs.Events.{events_of}

abbrev pub IsIndex : Expanded → List (List ℕ) → Type 0
IsIndex expanded lists =
    (event : ℕ) → event < length expanded.model.basics → slice_get lists event ≡ Some (events_of expanded event)

-- whether the number is the last of the list
abbrev pub ends_with : List ℕ → ℕ → Bool
ends_with list number = nat_lt 0 (length list) && (get_or list (length list - 1) 0 == number)

-- a list with the number at its end
abbrev pub noted : ℕ → List ℕ → List ℕ
noted number list = if ends_with list number then list else list ++ (number ∷ [])

-- The number is noted for the basic events that pass the test.
pub record Notes (number : ℕ) (test : ℕ → Bool) (before after : List (List ℕ)) : Type 0 where
  pub size : length after ≡ length before
  pub lists : (basic : ℕ) (list : List ℕ) → slice_get before basic ≡ Some list → slice_get after basic ≡ Some (if test basic then noted number list else list)

-- so many empty lists
abbrev pub empties : ℕ → List (List ℕ)
empties zero = []
empties (suc n) = empties n ++ ([] ∷ [])
