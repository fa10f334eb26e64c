-- Lists that are made of elements and joined.
use Rattle.std.proofs.Common.{◌≡◌, inl, inr, ◌+◌, ℕ, suc, Bool, true, false, cond, List, [], ◌∷◌, ◌++◌, Option, Some, map, length, ◌||◌, refl, ap, ap₂, ◌∙◌, arith}
use Rattle.std.proofs.lemmas.Bool.{cases_Bool}
use Rattle.std.proofs.lemmas.List.Elements.{filter_map-append, filter-append}
use Rattle.std.specs.List.{slice_get, list_any, filter, filter_map, flat_map, range_with_len}
use Rattle.psa_names.proofs.ListPlaces.{Has, has-first, has-later}

-- ---- lists

-- lists that are made alike of each element are joined alike
pub map-flat-in : {A B : Type 0} (f g : A → List B) (xs : List A) → ((x : A) → Has xs x → f x ≡ g x)
    → flat_map f xs ≡ flat_map g xs
map-flat-in f g [] same = refl
map-flat-in {A} {B} f g (x ∷ xs) same = ap₂ (λ (one rest : List B). one ++ rest) (same x (has-first x xs))
    (map-flat-in f g xs (λ y later. same y (has-later x y xs later)))

-- what is made of joined lists is made of each
pub made-flat : {A B C : Type 0} (h : B → Option C) (f : A → List B) (xs : List A)
    → filter_map h (flat_map f xs) ≡ flat_map (λ x. filter_map h (f x)) xs
made-flat h f [] = refl
made-flat {A} {B} {C} h f (x ∷ xs) = filter_map-append h (f x) (flat_map f xs)
    ∙ ap (λ (rest : List C). filter_map h (f x) ++ rest) (made-flat h f xs)

-- what is kept of joined lists is kept of each
pub kept-flat : {A B : Type 0} (p : B → Bool) (f : A → List B) (xs : List A)
    → filter p (flat_map f xs) ≡ flat_map (λ x. filter p (f x)) xs
kept-flat p f [] = refl
kept-flat {A} {B} p f (x ∷ xs) = filter-append p (f x) (flat_map f xs)
    ∙ ap (λ (rest : List B). filter p (f x) ++ rest) (kept-flat p f xs)

or-or : (a b c : Bool) → (a || (b || c)) ≡ ((a || b) || c)
or-or true b c = refl
or-or false b c = refl

any-append : {A : Type 0} (p : A → Bool) (ys zs : List A) → list_any p (ys ++ zs) ≡ (list_any p ys || list_any p zs)
any-append p [] zs = refl
any-append p (y ∷ ys) zs = ap (λ b. p y || b) (any-append p ys zs) ∙ or-or (p y) (list_any p ys) (list_any p zs)

-- some element of joined lists passes where one of some list does
pub any-flat : {A B : Type 0} (p : B → Bool) (f : A → List B) (xs : List A)
    → list_any p (flat_map f xs) ≡ list_any (λ x. list_any p (f x)) xs
any-flat p f [] = refl
any-flat p f (x ∷ xs) = any-append p (f x) (flat_map f xs) ∙ ap (λ b. list_any p (f x) || b) (any-flat p f xs)

-- lists that are made of what is made of elements
pub flat-of-map : {A B C : Type 0} (f : B → List C) (g : A → B) (xs : List A)
    → flat_map f (map g xs) ≡ flat_map (λ x. f (g x)) xs
flat-of-map f g [] = refl
flat-of-map {A} {B} {C} f g (x ∷ xs) = ap (λ (rest : List C). f (g x) ++ rest) (flat-of-map f g xs)

-- where none passes, nothing is kept
pub none-kept : {A : Type 0} (p : A → Bool) (xs : List A) → ((x : A) → Has xs x → p x ≡ false) → filter p xs ≡ []
none-kept p [] none = refl
none-kept p (x ∷ xs) none = rw (none x (has-first x xs)) (none-kept p xs (λ y later. none y (has-later x y xs later)))

-- one for each that passes
pub flat-kept : {A B : Type 0} (p : A → Bool) (f : A → B) (xs : List A)
    → flat_map (λ x. cond (p x) (f x ∷ []) []) xs ≡ map f (filter p xs)
flat-kept p f [] = refl
flat-kept {A} {B} p f (x ∷ xs) = elim (cases_Bool (p x)) [
  | inl passes ↦ rw passes (ap (λ (rest : List B). f x ∷ rest) (flat-kept p f xs))
  | inr fails ↦ rw fails (flat-kept p f xs)
]

-- where each element is made its place, the places are a range
pub map-range : {A : Type 0} (f : A → ℕ) (k : ℕ) (xs : List A) → ((i : ℕ) (x : A) → slice_get xs i ≡ Some x → f x ≡ k + i)
    → map f xs ≡ range_with_len k (length xs)
map-range f k [] at = refl
map-range f k (x ∷ xs) at =
    let here = at 0 x refl in
    let first : f x ≡ k = omega (arith, here) in
    ap₂ (λ (n : ℕ) (ns : List ℕ). n ∷ ns) first
    (map-range f (k + 1) xs (λ i y h. (let later = at (suc i) y h in omega (arith, later))))
