-- A worked example (this project's own): a system of two trains that fails where both fail. Each train fails where its
-- pump or its valve does: events 0 and 1 of the first, 2 and 3 of the second. The trains are the modules 4 and 5.
use Rattle.std.specs.Prelude.{◌==◌, ℕ, Bool, List, [], ◌∷◌, nat_lt, ◌&&◌, ◌||◌, if◌then◌else◌}

-- the train that an event belongs to
abbrev pub train_of : ℕ → ℕ
train_of event = if nat_lt event 2 then 4 else if nat_lt event 4 then 5 else event

-- where a train fails
abbrev pub train_fails : ℕ → (ℕ → Bool) → Bool
train_fails train s = if train == 4 then s 0 || s 1 else if train == 5 then s 2 || s 3 else s train

-- both trains fail
abbrev pub both_fail : (ℕ → Bool) → Bool
both_fail s = s 4 && s 5

-- what fails the system
abbrev pub four_sets : List (List ℕ)
four_sets = (0 ∷ 2 ∷ []) ∷ (0 ∷ 3 ∷ []) ∷ (1 ∷ 2 ∷ []) ∷ (1 ∷ 3 ∷ []) ∷ []
