-- What stands in a list, and tests of each element.
use Rattle.std.proofs.Common.{◌≡◌, ◌⊎◌, inl, inr, ℕ, zero, suc, ◌+◌, Bool, true, false, cond, List, [], ◌∷◌, ◌++◌, Some, map, length, ◌&&◌, refl, sym, ap, ◌∙◌, subst, zero-add, suc-add}
use Rattle.std.proofs.lemmas.Bool.{and_parts, and_from, or_cases, or_left, or_right, cases_Bool, false≢true}
use Rattle.std.proofs.lemmas.Option.{same_Some, none-some, slice_get-map, slice_get-get_or, slice_get_within, get_or_from_slice_get}
use Rattle.std.specs.List.{slice_get, filter, flat_map, list_all, list_any, All}
use Rattle.std.specs.Option.{option_map}

-- x stands in the list
abbrev pub Has : {A : Type 0} → List A → A → Type 0
Has {A} xs x = (i : ℕ) × (slice_get xs i ≡ Some x)

-- nothing stands in an empty list
pub has-none : {A : Type 0} (x : A) → Has [] x → ⊥
has-none x h = none-some x h.1

-- the first stands in a list
pub has-first : {A : Type 0} (x : A) (xs : List A) → Has (x ∷ xs) x
has-first x xs = (0, refl)

-- what stands in the rest stands in a list
pub has-later : {A : Type 0} (y x : A) (xs : List A) → Has xs x → Has (y ∷ xs) x
has-later y x xs h = (suc h.0, h.1)

cons-at : {A : Type 0} (y x : A) (xs : List A) (i : ℕ) → slice_get (y ∷ xs) i ≡ Some x → (y ≡ x) ⊎ Has xs x
cons-at y x xs zero h = inl (same_Some y x h)
cons-at y x xs (suc i) h = inr (i, h)

-- what stands in a list is the first or stands in the rest
pub has-cases : {A : Type 0} (y x : A) (xs : List A) → Has (y ∷ xs) x → (y ≡ x) ⊎ Has xs x
has-cases y x xs h = cons-at y x xs h.0 h.1

-- ---- joined lists

-- what stands at a place of the first of two joined lists
pub get-left : {A : Type 0} (xs ys : List A) (i : ℕ) (x : A) → slice_get xs i ≡ Some x
    → slice_get (xs ++ ys) i ≡ Some x
get-left [] ys i x h = absurd (none-some x h)
get-left (y ∷ xs) ys zero x h = h
get-left (y ∷ xs) ys (suc i) x h = get-left xs ys i x h

-- what stands at a place behind the first of two joined lists
pub get-right : {A : Type 0} (xs ys : List A) (i : ℕ) → slice_get (xs ++ ys) (length xs + i) ≡ slice_get ys i
get-right [] ys i = ap (λ n. slice_get ys n) (zero-add i)
get-right (x ∷ xs) ys i = ap (λ n. slice_get (x ∷ xs ++ ys) n) (suc-add (length xs) i) ∙ get-right xs ys i

-- what stands in the first of two joined lists
pub has-left : {A : Type 0} (xs ys : List A) (x : A) → Has xs x → Has (xs ++ ys) x
has-left xs ys x h = (h.0, get-left xs ys h.0 x h.1)

-- what stands in the second of two joined lists
pub has-right : {A : Type 0} (xs ys : List A) (x : A) → Has ys x → Has (xs ++ ys) x
has-right xs ys x h = (length xs + h.0, get-right xs ys h.0 ∙ h.1)

-- what stands in two joined lists stands in one of them
pub append-cases : {A : Type 0} (xs ys : List A) (x : A) → Has (xs ++ ys) x → Has xs x ⊎ Has ys x
append-cases [] ys x h = inr h
append-cases (y ∷ xs) ys x h = elim (has-cases y x (xs ++ ys) h) [
  | inl same ↦ inl (0, ap Some same)
  | inr later ↦ elim (append-cases xs ys x later) [
    | inl left ↦ inl (has-later y x xs left)
    | inr right ↦ inr right
  ]
]

-- what stands in one of joined lists
pub has-flat : {A B : Type 0} (f : A → List B) (xs : List A) (x : A) (y : B) → Has xs x → Has (f x) y
    → Has (flat_map f xs) y
has-flat f [] x y here h = absurd (has-none x here)
has-flat {A} {B} f (z ∷ xs) x y here h = elim (has-cases z x xs here) [
  | inl same ↦ has-left (f z) (flat_map f xs) y (subst (λ (a : A). Has (f a) y) (sym same) h)
  | inr later ↦ has-right (f z) (flat_map f xs) y (has-flat f xs x y later h)
]

-- what stands in joined lists stands in one of them
pub from-flat : {A B : Type 0} (f : A → List B) (xs : List A) (y : B) → Has (flat_map f xs) y
    → (x : A) × Has xs x × Has (f x) y
from-flat f [] y h = absurd (has-none y h)
from-flat f (x ∷ xs) y h = elim (append-cases (f x) (flat_map f xs) y h) [
  | inl left ↦ (x, has-first x xs, left)
  | inr right ↦ let r = from-flat f xs y right in (r.0, has-later x r.0 xs r.1, r.2)
]

-- ---- filters and maps

-- what passes is kept
pub has-kept : {A : Type 0} (p : A → Bool) (xs : List A) (x : A) → Has xs x → p x ≡ true → Has (filter p xs) x
has-kept p [] x h passes = absurd (has-none x h)
has-kept {A} p (y ∷ xs) x h passes = elim (has-cases y x xs h) [
  | inl same ↦ let here : p y ≡ true = ap p same ∙ passes in rw here (0, ap Some same)
  | inr later ↦ by_test (p y) (has-kept p xs x later passes)
]
  where
    by_test : (b : Bool) → Has (filter p xs) x → Has (cond b (y ∷ filter p xs) (filter p xs)) x
    by_test true rest = has-later y x (filter p xs) rest
    by_test false rest = rest

-- what is kept passes
pub from-kept : {A : Type 0} (p : A → Bool) (xs : List A) (x : A) → Has (filter p xs) x → Has xs x × (p x ≡ true)
from-kept p [] x h = absurd (has-none x h)
from-kept {A} p (y ∷ xs) x h = elim (cases_Bool (p y)) [
  | inl passes ↦ elim (has-cases y x (filter p xs) (rw passes at h)) [
    | inl same ↦ ((0, ap Some same), ap p (sym same) ∙ passes)
    | inr later ↦ let r = from-kept p xs x later in (has-later y x xs r.0, r.1)
  ]
  | inr fails ↦ let r = from-kept p xs x (rw fails at h) in (has-later y x xs r.0, r.1)
]

-- what is made of an element
pub has-map : {A B : Type 0} (f : A → B) (xs : List A) (x : A) → Has xs x → Has (map f xs) (f x)
has-map f xs x h = (h.0, slice_get-map f xs h.0 ∙ ap (option_map f) h.1)

-- what is made is made of an element
pub from-map : {A B : Type 0} (f : A → B) (xs : List A) (y : B) → Has (map f xs) y → (x : A) × Has xs x × (f x ≡ y)
from-map f [] y h = absurd (has-none y h)
from-map f (x ∷ xs) y h = elim (has-cases (f x) y (map f xs) h) [
  | inl same ↦ (x, has-first x xs, same)
  | inr later ↦ let r = from-map f xs y later in (r.0, has-later x r.0 xs r.1, r.2)
]

-- what stands at a place of a list that a function makes
pub map-at : {A B : Type 0} (f : A → B) (xs : List A) (i : ℕ) (y : B) → slice_get (map f xs) i ≡ Some y
    → (x : A) × (slice_get xs i ≡ Some x) × (f x ≡ y)
map-at f [] i y h = absurd (none-some y h)
map-at f (x ∷ xs) zero y h = (x, refl, same_Some (f x) y h)
map-at f (x ∷ xs) (suc i) y h = map-at f xs i y h

-- one function after another is one function
pub map-map : {A B C : Type 0} (f : B → C) (g : A → B) (xs : List A) → map f (map g xs) ≡ map (λ x. f (g x)) xs
map-map f g [] = refl
map-map {A} {B} {C} f g (x ∷ xs) = ap (λ (rest : List C). f (g x) ∷ rest) (map-map f g xs)

-- ---- tests

-- where all pass, each does
pub all-at : {A : Type 0} (p : A → Bool) (xs : List A) (x : A) → list_all p xs ≡ true → Has xs x → p x ≡ true
all-at p [] x h here = absurd (has-none x here)
all-at p (y ∷ xs) x h here =
    let parts = and_parts (p y) (list_all p xs) h in
    elim (has-cases y x xs here) [
      | inl same ↦ ap p (sym same) ∙ parts.0
      | inr later ↦ all-at p xs x parts.1 later
    ]

-- where each passes, all do
pub all-from : {A : Type 0} (p : A → Bool) (xs : List A) → ((x : A) → Has xs x → p x ≡ true) → list_all p xs ≡ true
all-from p [] h = refl
all-from p (y ∷ xs) h = and_from (p y) (list_all p xs) (h y (has-first y xs))
    (all-from p xs (λ x later. h x (has-later y x xs later)))

-- where all of two joined lists pass, all of each do
pub all-append : {A : Type 0} (p : A → Bool) (xs ys : List A) → list_all p (xs ++ ys) ≡ true
    → (list_all p xs ≡ true) × (list_all p ys ≡ true)
all-append p [] ys h = (refl, h)
all-append p (x ∷ xs) ys h =
    let parts = and_parts (p x) (list_all p (xs ++ ys)) h in
    let rest = all-append p xs ys parts.1 in
    (and_from (p x) (list_all p xs) parts.0 rest.0, rest.1)

-- where all of two lists pass, all of them joined do
pub all-joined : {A : Type 0} (p : A → Bool) (xs ys : List A) → list_all p xs ≡ true → list_all p ys ≡ true
    → list_all p (xs ++ ys) ≡ true
all-joined p [] ys h k = k
all-joined p (x ∷ xs) ys h k =
    let parts = and_parts (p x) (list_all p xs) h in and_from (p x) (list_all p (xs ++ ys)) parts.0
    (all-joined p xs ys parts.1 k)

-- a test that passes more
pub all-more : {A : Type 0} (p q : A → Bool) (xs : List A) → ((x : A) → p x ≡ true → q x ≡ true)
    → list_all p xs ≡ true → list_all q xs ≡ true
all-more p q [] more h = refl
all-more p q (x ∷ xs) more h =
    let parts = and_parts (p x) (list_all p xs) h in and_from (q x) (list_all q xs) (more x parts.0)
    (all-more p q xs more parts.1)

-- where some element passes, there is one that does
pub any-from : {A : Type 0} (p : A → Bool) (xs : List A) → list_any p xs ≡ true → (x : A) × Has xs x × (p x ≡ true)
any-from p [] h = absurd (false≢true h)
any-from p (x ∷ xs) h = elim (or_cases (p x) (list_any p xs) h) [
  | inl here ↦ (x, has-first x xs, here)
  | inr later ↦ let r = any-from p xs later in (r.0, has-later x r.0 xs r.1, r.2)
]

-- where there is one that passes, some element does
pub has-any : {A : Type 0} (p : A → Bool) (xs : List A) (x : A) → Has xs x → p x ≡ true → list_any p xs ≡ true
has-any p [] x h passes = absurd (has-none x h)
has-any p (y ∷ xs) x h passes = elim (has-cases y x xs h) [
  | inl same ↦ or_left (p y) (list_any p xs) (ap p same ∙ passes)
  | inr later ↦ or_right (p y) (list_any p xs) (has-any p xs x later passes)
]

-- what holds of each holds of all
pub All-from : {A : Type 0} (P : A → Type 0) (xs : List A) → ((x : A) → Has xs x → P x) → All P xs
All-from P xs h k d l = h _ (k, slice_get-get_or xs k d l)

-- what holds of all holds of each
pub All-at : {A : Type 0} (P : A → Type 0) (xs : List A) (x : A) → All P xs → Has xs x → P x
All-at P xs x h here = subst P (get_or_from_slice_get xs here.0 x x here.1)
    (h here.0 x (slice_get_within xs here.0 x here.1))

-- a test of what is made of elements is a test of these
pub list_all-mapped : {A B : Type 0} (p : B → Bool) (f : A → B) (xs : List A)
    → list_all p (map f xs) ≡ list_all (λ x. p (f x)) xs
list_all-mapped p f [] = refl
list_all-mapped p f (x ∷ xs) = ap (λ b. p (f x) && b) (list_all-mapped p f xs)
