-- Definitions in the order of their contents, by their places.
use Rattle.std.proofs.Common.{◌≡◌, inl, inr, ◌<◌, ◌+◌, ◌==◌, ℕ, zero, suc, true, false, nat_lt, List, [], ◌∷◌, Some, take, length, ◌&&◌, refl, sym, ap, ap₂, ◌∙◌, subst, arith}
use Rattle.std.proofs.lemmas.Bool.{cases_Bool, cases_order, false_from_ne_true, or_cases, and_parts, ltb-true}
use Rattle.std.proofs.lemmas.Option.{same_Some, none-some}
use Rattle.std.specs.Prelude.{if◌then◌else◌}
use Rattle.std.specs.List.{slice_get}
use Rattle.psa_model.specs.Drafts.{Position, stands_before, position_of}
use Rattle.psa_names.specs.Outlines.{Entry}
use Rattle.psa_names.specs.Collected.{contents_before, placed, by_contents}
use Rattle.psa_names.proofs.ListPlaces.{Has, has-none, has-first, has-later, has-cases}
use Rattle.psa_names.proofs.Sums.{weigh}
use Rattle.psa_names.proofs.ContentsOrder.{IsAscending, contents-contents, contents-never}
use Rattle.psa_names.proofs.ContentsSorted.{IsSorted}

-- ---- sorted definitions

-- where the contents of each definition stand before those of the next, definitions are sorted
pub sorted-by-neighbours : (xs : List Entry) → ((k : ℕ) (x y : Entry) → slice_get xs k ≡ Some x → slice_get xs (suc k) ≡ Some y → contents_before x y ≡ true) → IsSorted xs
sorted-by-neighbours [] h = tt
sorted-by-neighbours (x ∷ []) h = ((λ y here. absurd (has-none y here)), tt)
sorted-by-neighbours (x ∷ y ∷ xs) h =
    let rest = sorted-by-neighbours (y ∷ xs) (λ k a b. h (suc k) a b) in
    let next = h 0 x y refl refl in (
      (λ z here. elim (has-cases y z xs here) [
        | inl same ↦ subst (λ (e : Entry). contents_before x e ≡ true) same next
        | inr later ↦ contents-contents x y z next (rest.0 z later)
      ]),
      rest,
    )

-- of two sorted definitions the contents of the first stand before those of the second
pub sorted-at : (xs : List Entry) → IsSorted xs → (i j : ℕ) (x y : Entry) → slice_get xs i ≡ Some x → slice_get xs j ≡ Some y → i < j → contents_before x y ≡ true
sorted-at [] s i j x y a b less = absurd (none-some x a)
sorted-at (z ∷ xs) s i zero x y a b less = absurd (omega (arith, less))
sorted-at (z ∷ xs) s zero (suc j) x y a b less =
    subst (λ (e : Entry). contents_before e y ≡ true) (same_Some z x a) (s.0 y (j, b))
sorted-at (z ∷ xs) s (suc i) (suc j) x y a b less = sorted-at xs s.1 i j x y a b (omega (arith, less))

before-own : (x : Entry) → contents_before x x ≡ true → ⊥
before-own x h = contents-never x x h h

same-first : (x y : Entry) (xs ys : List Entry) → IsSorted (x ∷ xs) → IsSorted (y ∷ ys) → Has (y ∷ ys) x → Has (x ∷ xs) y → x ≡ y
same-first x y xs ys s t here there = elim (has-cases y x ys here) [
  | inl same ↦ sym same
  | inr later ↦ elim (has-cases x y xs there) [
    | inl same ↦ same
    | inr after ↦ absurd (contents-never x y (s.0 y after) (t.0 x later))
  ]
]

rest-has : (x y : Entry) (xs ys : List Entry) → IsSorted (x ∷ xs) → x ≡ y → (z : Entry) → Has xs z → Has (y ∷ ys) z → Has ys z
rest-has x y xs ys s same z here there = elim (has-cases y z ys there) [
  | inl own ↦ absurd (before-own x (subst (λ (e : Entry). contents_before x e ≡ true) (sym (same ∙ own)) (s.0 z here)))
  | inr later ↦ later
]

-- sorted definitions are told by which they are
pub sorted-same : (xs ys : List Entry) → IsSorted xs → IsSorted ys → ((z : Entry) → Has xs z → Has ys z) → ((z : Entry) → Has ys z → Has xs z) → xs ≡ ys
sorted-same [] [] s t to from = refl
sorted-same [] (y ∷ ys) s t to from = absurd (has-none y (from y (has-first y ys)))
sorted-same (x ∷ xs) [] s t to from = absurd (has-none x (to x (has-first x xs)))
sorted-same (x ∷ xs) (y ∷ ys) s t to from =
    let same = same-first x y xs ys s t (to x (has-first x xs)) (from y (has-first y ys)) in
    ap₂ (λ (e : Entry) es. e ∷ es) same
    (sorted-same xs ys s.1 t.1
    (λ z here. rest-has x y xs ys s same z here (to z (has-later x z xs here)))
    (λ z here. rest-has y x ys xs t (sym same) z here (from z (has-later y z ys here))))

-- ---- places of definitions

-- of two definitions of a draft the one at the lesser place stands first
pub ascending-at : (xs : List Entry) → IsAscending xs → (i j : ℕ) (x y : Entry) → slice_get xs i ≡ Some x → slice_get xs j ≡ Some y → i < j → stands_before (position_of x.definition) (position_of y.definition) ≡ true
ascending-at [] s i j x y a b less = absurd (none-some x a)
ascending-at (z ∷ xs) s i zero x y a b less = absurd (omega (arith, less))
ascending-at (z ∷ xs) s zero (suc j) x y a b less =
    subst (λ (e : Entry). stands_before (position_of e.definition) (position_of y.definition) ≡ true) (same_Some z x a) (s.0 y (j, b))
ascending-at (z ∷ xs) s (suc i) (suc j) x y a b less = ascending-at xs s.1 i j x y a b (omega (arith, less))

stands-never : (p : Position) → stands_before p p ≡ true → ⊥
stands-never p h = elim (or_cases (nat_lt p.file p.file) (p.file == p.file && nat_lt p.tag p.tag) h) [
  | inl less ↦ let l = ltb-true p.file p.file less in omega (arith, l)
  | inr both ↦ let l = ltb-true p.tag p.tag (and_parts (p.file == p.file) (nat_lt p.tag p.tag) both).1 in omega (arith, l)
]

-- a definition of a draft stands at one place
pub one-place : (xs : List Entry) → IsAscending xs → (i j : ℕ) (x : Entry) → slice_get xs i ≡ Some x → slice_get xs j ≡ Some x → i ≡ j
one-place xs s i j x a b = elim (cases_order i j) [
  | inl same ↦ same
  | inr (inl less) ↦ absurd (stands-never (position_of x.definition) (ascending-at xs s i j x x a b less))
  | inr (inr more) ↦ absurd (stands-never (position_of x.definition) (ascending-at xs s j i x x b a more))
]

-- ---- what stands before

-- the weight of a definition whose contents stand before those of another
abbrev pub weight_before : (Entry → ℕ) → Entry → Entry → ℕ
weight_before f one y = if contents_before y one then f y else 0

none-before : (f : Entry → ℕ) (one : Entry) (xs : List Entry) → ((y : Entry) → Has xs y → contents_before one y ≡ true) → weigh (weight_before f one) xs ≡ 0
none-before f one [] after = refl
none-before f one (x ∷ xs) after =
    let here = false_from_ne_true (contents_before x one) (λ t. contents-never one x (after x (has-first x xs)) t) in
    let rest = none-before f one xs (λ y h. after y (has-later x y xs h)) in
    rw here (omega (arith, rest))

-- of sorted definitions those whose contents stand before those of one stand before it
pub weigh-before : (f : Entry → ℕ) (one : Entry) (xs : List Entry) → IsSorted xs → (j : ℕ) → slice_get xs j ≡ Some one → weigh (weight_before f one) xs ≡ weigh f (take j xs)
weigh-before f one [] s j h = absurd (none-some one h)
weigh-before f one (x ∷ xs) s zero h =
    let same = same_Some x one h in
    let own = false_from_ne_true (contents_before one one) (before-own one) in
    let here : contents_before x one ≡ false = ap (λ (e : Entry). contents_before e one) same ∙ own in
    let rest = none-before f one xs (λ y later. subst (λ (e : Entry). contents_before e y ≡ true) same (s.0 y later)) in
    rw here (omega (arith, rest))
weigh-before f one (x ∷ xs) s (suc j) h =
    let here = s.0 one (j, h) in
    rw here (ap (λ n. f x + n) (weigh-before f one xs s.1 j h))

length-placed : (one : Entry) (xs : List Entry) → length (placed one xs) ≡ suc (length xs)
length-placed one [] = refl
length-placed one (other ∷ others) = elim (cases_Bool (contents_before other one)) [
  | inl before ↦ rw before (ap suc (length-placed one others))
  | inr after ↦ rw after refl
]

-- there are as many definitions in the order of contents
pub length-by : (xs : List Entry) → length (by_contents xs) ≡ length xs
length-by [] = refl
length-by (x ∷ xs) = length-placed x (by_contents xs) ∙ ap suc (length-by xs)
