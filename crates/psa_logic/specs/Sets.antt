-- Finite sets of numbers, such as the ranks of a target's events, as strictly ascending lists.
use Rattle.std.specs.Prelude.{◌≡◌, ◌⊎◌, ◌==◌, ℕ, Bool, true, false, List, [], ◌∷◌, nat_lt, ◌&&◌, ◌||◌, if◌then◌else◌}

-- every number of the list is greater than x
abbrev pub all_above : ℕ → List ℕ → Bool
all_above x [] = true
all_above x (y ∷ ys) = nat_lt x y && all_above x ys

-- strictly ascending: a set, each member once
abbrev pub is_ascending : List ℕ → Bool
is_ascending [] = true
is_ascending (x ∷ xs) = all_above x xs && is_ascending xs

-- what is left of the second list when some of its items are dropped; of two sets: a subset
abbrev pub is_part : List ℕ → List ℕ → Bool
is_part [] [] = true
is_part (t ∷ ts) [] = false
is_part [] (x ∷ xs) = true
is_part (t ∷ ts) (x ∷ xs) = if t == x then is_part ts xs else is_part (t ∷ ts) xs

-- the test of membership: does x occur in the set
abbrev pub occurs : List ℕ → ℕ → Bool
occurs [] x = false
occurs (y ∷ ys) x = (y == x) || occurs ys x

-- x is an item of the list
abbrev pub Has : {A : Type 0} → List A → A → Type 0
Has [] x = ⊥
Has (y ∷ ys) x = (y ≡ x) ⊎ Has ys x
