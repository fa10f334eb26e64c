-- Items by the number of older ones, in a list that is newest first.
use Rattle.std.specs.Prelude.{◌≡◌, ◌⊎◌, ◌++◌, ℕ, List, ◌∷◌, Some, length}
use Rattle.psa_graph.specs.Truths.{older_at}

-- the item is at the place, and it came in or was there
abbrev pub IsAdded : {A : Type 0} → A → List A → List A → ℕ → Type 0
IsAdded x before now place =
    (older_at now place ≡ Some x) × ((now ≡ before) ⊎ ((now ≡ x ∷ before) × (place ≡ length before)))

-- the list has more items before it
abbrev pub Grown : {A : Type 0} → List A → List A → Type 0
Grown before now = (more : List _) × (now ≡ more ++ before)
