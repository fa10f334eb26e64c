-- The first place that passes a test, and elements with their places.
use Rattle.std.proofs.Common.{◌≡◌, inl, inr, ℕ, zero, suc, ◌+◌, ◌==◌, Bool, true, false, cond, not, nat_lt, List, [], ◌∷◌, Option, Some, None, length, refl, sym, ap, ◌∙◌, one-add, arith}
use Rattle.std.proofs.lemmas.Bool.{cases_Bool, cases_lt, lt-ltb, le-ltb, eq-eqb, ne_eqb, false≢true}
use Rattle.std.proofs.lemmas.Option.{same_Some, none-some}
use Rattle.std.specs.List.{slice_get, filter, position, prefix_len, enumerate_from}
use Rattle.std.specs.Option.{option_map}
use Rattle.psa_names.proofs.ListPlaces.{Has, has-none, has-cases}

-- the first place that passes, by recursion
abbrev pub first : {A : Type 0} → (A → Bool) → List A → Option ℕ
first p [] = None
first p (x ∷ xs) = cond (p x) (Some 0) (option_map suc (first p xs))

shifted : (n m : ℕ) → cond (nat_lt (1 + n) (suc m)) (Some (1 + n)) None
    ≡ option_map suc (cond (nat_lt n m) (Some n) None)
shifted n m = elim (cases_lt n m) [
  | inl below ↦ rw (lt-ltb (1 + n) (suc m) (omega arith), lt-ltb n m below) (ap Some (one-add n))
  | inr above ↦ rw (le-ltb (1 + n) (suc m) (omega arith), le-ltb n m above) refl
]

-- the first place, by recursion
pub position-first : {A : Type 0} (p : A → Bool) (xs : List A) → position p xs ≡ first p xs
position-first p [] = refl
position-first p (x ∷ xs) = elim (cases_Bool (p x)) [
  | inl passes ↦ rw passes (rw (lt-ltb 0 (suc (length xs)) (omega arith)) refl)
  | inr fails ↦ rw fails (shifted (prefix_len (λ y. not (p y)) xs) (length xs)
      ∙ ap (option_map suc) (position-first p xs))
]

some-suc : (o : Option ℕ) (i : ℕ) → option_map suc o ≡ Some i → (j : ℕ) × (o ≡ Some j) × (i ≡ suc j)
some-suc None i h = absurd (none-some i h)
some-suc (Some j) i h = (j, refl, sym (same_Some (suc j) i h))

-- what stands at the first place that passes
pub first-at : {A : Type 0} (p : A → Bool) (xs : List A) (i : ℕ) → first p xs ≡ Some i
    → (x : A) × (slice_get xs i ≡ Some x) × (p x ≡ true)
first-at p [] i h = absurd (none-some i h)
first-at {A} p (x ∷ xs) i h = elim (cases_Bool (p x)) [
  | inl passes ↦ (x, ap (λ n. slice_get (x ∷ xs) n) (sym (same_Some 0 i (rw passes at h))), passes)
  | inr fails ↦
      let before = some-suc (first p xs) i (rw fails at h) in
      let r = first-at p xs before.0 before.1 in
      (r.0, ap (λ n. slice_get (x ∷ xs) n) before.2 ∙ r.1, r.2)
]

-- where something passes, there is a first place
pub first-of : {A : Type 0} (p : A → Bool) (xs : List A) (x : A) → Has xs x → p x ≡ true
    → (i : ℕ) × (first p xs ≡ Some i)
first-of p [] x h passes = absurd (has-none x h)
first-of p (y ∷ xs) x h passes = elim (cases_Bool (p y)) [
  | inl here ↦ (0, rw here refl)
  | inr fails ↦ elim (has-cases y x xs h) [
    | inl same ↦ absurd (false≢true (sym fails ∙ (ap p same ∙ passes)))
    | inr later ↦ let r = first-of p xs x later passes in (suc r.0, rw fails (ap (option_map suc) r.1))
  ]
]

-- what stands at the position that is found
pub position-at : {A : Type 0} (p : A → Bool) (xs : List A) (i : ℕ) → position p xs ≡ Some i
    → (x : A) × (slice_get xs i ≡ Some x) × (p x ≡ true)
position-at p xs i h = first-at p xs i (sym (position-first p xs) ∙ h)

-- where something passes, a position is found
pub position-of : {A : Type 0} (p : A → Bool) (xs : List A) (x : A) → Has xs x → p x ≡ true
    → (i : ℕ) × (position p xs ≡ Some i)
position-of p xs x h passes = let r = first-of p xs x h passes in (r.0, position-first p xs ∙ r.1)

-- ---- elements with their places

-- an element at a place, with its place
pub enumerated-at : {A : Type 0} (k : ℕ) (xs : List A) (i : ℕ) (one : ℕ × A)
    → slice_get (enumerate_from k xs) i ≡ Some one → (one.0 ≡ k + i) × (slice_get xs i ≡ Some one.1)
enumerated-at k [] i one h = absurd (none-some one h)
enumerated-at {A} k (x ∷ xs) zero one h =
    let same = same_Some (k, x) one h in
    let number : k ≡ one.0 = ap (λ (o : ℕ × A). o.0) same in
    (omega (arith, number), ap (λ (o : ℕ × A). Some o.1) same)
enumerated-at k (x ∷ xs) (suc i) one h =
    let rest = enumerated-at (k + 1) xs i one h in
    let number = rest.0 in
    (omega (arith, number), rest.1)

-- an element with its place stands there
pub from-enumerated : {A : Type 0} (xs : List A) (one : ℕ × A) → Has (enumerate_from 0 xs) one
    → slice_get xs one.0 ≡ Some one.1
from-enumerated xs one h =
    let found = enumerated-at 0 xs h.0 one h.1 in
    let number : one.0 ≡ h.0 = let n = found.0 in omega (arith, n) in
    ap (λ n. slice_get xs n) number ∙ found.1

-- an element stands with its place
pub enumerate-get : {A : Type 0} (k : ℕ) (xs : List A) (i : ℕ) (x : A) → slice_get xs i ≡ Some x
    → slice_get (enumerate_from k xs) i ≡ Some (k + i, x)
enumerate-get k [] i x h = absurd (none-some x h)
enumerate-get {A} k (y ∷ xs) zero x h =
    let number : k ≡ k + 0 = omega arith in
    ap (λ n. Some (n, y)) number ∙ ap (λ (z : A). Some (k + 0, z)) (same_Some y x h)
enumerate-get {A} k (y ∷ xs) (suc i) x h =
    let number : (k + 1) + i ≡ k + suc i = omega arith in
    enumerate-get (k + 1) xs i x h ∙ ap (λ n. Some (n, x)) number

-- an element is among those with their places
pub has-enumerated : {A : Type 0} (xs : List A) (i : ℕ) (x : A) → slice_get xs i ≡ Some x
    → Has (enumerate_from 0 xs) (i, x)
has-enumerated xs i x h =
    let number : 0 + i ≡ i = omega arith in
    (i, enumerate-get 0 xs i x h ∙ ap (λ n. Some (n, x)) number)

-- ---- places among those that pass

-- the element at a place that passes a test is found by its place among those that pass
pub kept-place : {A : Type 0} (q : A → Bool) (k : ℕ) (xs : List A) (i t : ℕ) (x : A) → t ≡ k + i
    → slice_get xs i ≡ Some x → q x ≡ true
    → (j : ℕ) × (first (λ one. one.0 == t) (filter (λ (one : ℕ × A). q one.1) (enumerate_from k xs)) ≡ Some j)
    × (slice_get (filter (λ (one : ℕ × A). q one.1) (enumerate_from k xs)) j ≡ Some (t, x))
kept-place q k [] i t x at h passes = absurd (none-some x h)
kept-place {A} q k (y ∷ xs) zero t x at h passes =
    let same = same_Some y x h in
    let here : q y ≡ true = ap q same ∙ passes in
    let number : k ≡ t = omega arith in
    rw here (0, rw (eq-eqb k t number) refl, ap (λ n. Some (n, y)) number ∙ ap (λ (z : A). Some (t, z)) same)
kept-place {A} q k (y ∷ xs) (suc i) t x at h passes =
    let r = kept-place q (k + 1) xs i t x (omega arith) h passes in
    elim (cases_Bool (q y)) [
      | inl here ↦
          let apart : (k == t) ≡ false = ne_eqb k t (λ same. omega arith) in
          rw here (suc r.0, rw apart (ap (option_map suc) r.1), r.2)
      | inr fails ↦ rw fails r
    ]
