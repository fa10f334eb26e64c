-- A list with one item changed.
use Rattle.std.proofs.Common.{◌≡◌, ◌≢◌, ℕ, zero, suc, List, [], ◌∷◌, Option, Some, None, length, refl, ap, length-set}
use Rattle.std.proofs.lemmas.List.Elements.{All-set}
use Rattle.std.specs.Prelude.{All}
use Rattle.std.specs.List.{slice_get, slice_set}
use Rattle.psa_whatif.specs.Edits.{with_found, with_item}

-- the other items of a list that is set at a place
pub set-other : {A : Type 0} (xs : List A) (i k : ℕ) (y : A) → k ≢ i → slice_get (slice_set xs i y) k ≡ slice_get xs k
set-other [] i k y other = refl
set-other (x ∷ xs) zero zero y other = absurd (other refl)
set-other (x ∷ xs) zero (suc k) y other = refl
set-other (x ∷ xs) (suc i) zero y other = refl
set-other (x ∷ xs) (suc i) (suc k) y other = set-other xs i k y (λ e. other (ap suc e))

-- the item that was set
pub set-same : {A : Type 0} (xs : List A) (i : ℕ) (x y : A) → slice_get xs i ≡ Some x
    → slice_get (slice_set xs i y) i ≡ Some y
set-same [] i x y found = absurd (cc)
set-same (z ∷ xs) zero x y found = refl
set-same (z ∷ xs) (suc i) x y found = set-same xs i x y found

-- a list with one item changed is as long
found-length : {A : Type 0} (f : A → A) (xs : List A) (i : ℕ) (found : Option A)
    → length (with_found f xs i found) ≡ length xs
found-length f xs i None = refl
found-length f xs i (Some x) = length-set xs i (f x)

pub item-length : {A : Type 0} (f : A → A) (xs : List A) (i : ℕ) → length (with_item f xs i) ≡ length xs
item-length f xs i = found-length f xs i (slice_get xs i)

-- its other items are as before
found-other : {A : Type 0} (f : A → A) (xs : List A) (i k : ℕ) (found : Option A) → k ≢ i
    → slice_get (with_found f xs i found) k ≡ slice_get xs k
found-other f xs i k None other = refl
found-other f xs i k (Some x) other = set-other xs i k (f x) other

pub item-other : {A : Type 0} (f : A → A) (xs : List A) (i k : ℕ) → k ≢ i
    → slice_get (with_item f xs i) k ≡ slice_get xs k
item-other f xs i k other = found-other f xs i k (slice_get xs i) other

-- the item at the place is changed
pub item-same : {A : Type 0} (f : A → A) (xs : List A) (i : ℕ) (x : A) → slice_get xs i ≡ Some x
    → slice_get (with_item f xs i) i ≡ Some (f x)
item-same f xs i x found = rw found (set-same xs i x (f x) found)

-- what holds of each item and of what is made of any holds of each item after
found-all : {A : Type 0} (P : A → Type 0) (f : A → A) → ((x : A) → P (f x)) → (xs : List A) (i : ℕ)
    (found : Option A) → All P xs → All P (with_found f xs i found)
found-all P f made xs i None all = all
found-all P f made xs i (Some x) all = All-set P xs i (f x) (made x) all

pub item-all : {A : Type 0} (P : A → Type 0) (f : A → A) → ((x : A) → P (f x)) → (xs : List A) (i : ℕ)
    → All P xs → All P (with_item f xs i)
item-all P f made xs i all = found-all P f made xs i (slice_get xs i) all

-- what a change leaves of an item is the same at each place
kept-at : {A B : Type 0} (f : A → A) (g : Option A → B) → ((x : A) → g (Some (f x)) ≡ g (Some x))
    → (xs : List A) (i k : ℕ) (x : A) → slice_get xs i ≡ Some x
    → g (slice_get (slice_set xs i (f x)) k) ≡ g (slice_get xs k)
kept-at f g same [] i k x found = refl
kept-at f g same (z ∷ xs) zero zero x found = let one : z ≡ x = cc in rw one (same x)
kept-at f g same (z ∷ xs) zero (suc k) x found = refl
kept-at f g same (z ∷ xs) (suc i) zero x found = refl
kept-at f g same (z ∷ xs) (suc i) (suc k) x found = kept-at f g same xs i k x found

found-kept : {A B : Type 0} (f : A → A) (g : Option A → B) → ((x : A) → g (Some (f x)) ≡ g (Some x))
    → (xs : List A) (i k : ℕ) (found : Option A) → slice_get xs i ≡ found
    → g (slice_get (with_found f xs i found) k) ≡ g (slice_get xs k)
found-kept f g same xs i k None is = refl
found-kept f g same xs i k (Some x) is = kept-at f g same xs i k x is

pub item-kept : {A B : Type 0} (f : A → A) (g : Option A → B) → ((x : A) → g (Some (f x)) ≡ g (Some x))
    → (xs : List A) (i k : ℕ) → g (slice_get (with_item f xs i) k) ≡ g (slice_get xs k)
item-kept f g same xs i k = found-kept f g same xs i k (slice_get xs i) refl
