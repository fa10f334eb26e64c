-- Parts of a list are transitive, in its order and of its items; an ascending list is known by its items.
use Rattle.std.proofs.Common.{◌≡◌, ◌⊎◌, ◌==◌, ℕ, ◌<◌, ◌≤◌, true, false, List, [], ◌∷◌, length, nat_lt, refl, sym, ap, ◌∙◌, inl, inr, arith}
use Rattle.std.proofs.lemmas.Bool.{false≢true, eq-eqb, ne_eqb, and_parts, and_from, lt-ltb, ltb-true}
use Rattle.std.proofs.lemmas.Bool.Decides.{eqb_tells}
use Rattle.psa_logic.specs.Sets.{all_above, is_ascending, is_part, occurs, Has}

-- Each number passes the test of being equal to itself.
pub eqb-same : (x : ℕ) → (x == x) ≡ true
eqb-same x = eq-eqb x x refl

-- the whole list is a part of itself
pub part-self : (xs : List ℕ) → is_part xs xs ≡ true
part-self [] = refl
part-self (x ∷ xs) = rw (eqb-same x) (part-self xs)

-- nothing is a part of everything
pub part-nil : (xs : List ℕ) → is_part [] xs ≡ true
part-nil [] = refl
part-nil (x ∷ xs) = refl

-- a part without its head, given that a part of xs is one of each longer list
part-skip_from : (xs : List ℕ) → ((t : ℕ) (ts : List ℕ) → is_part (t ∷ ts) xs ≡ true → is_part ts xs ≡ true) → (x : ℕ) (ts : List ℕ) → is_part ts xs ≡ true → is_part ts (x ∷ xs) ≡ true
part-skip_from xs tail x [] h = refl
part-skip_from xs tail x (t ∷ ts) h = elim (eqb_tells t x) [
  | inl p ↦ rw p.0 (tail t ts h)
  | inr p ↦ rw p.0 h
]

-- a part without its head is a part
pub part-tail : (xs : List ℕ) (t : ℕ) (ts : List ℕ) → is_part (t ∷ ts) xs ≡ true → is_part ts xs ≡ true
part-tail [] t ts h = absurd (false≢true h)
part-tail (x ∷ xs) t ts h = elim (eqb_tells t x) [
  | inl p ↦ part-skip_from xs (part-tail xs) x ts (rw p.0 at h)
  | inr p ↦ part-skip_from xs (part-tail xs) x ts (part-tail xs t ts (rw p.0 at h))
]

-- a part of the tail is a part
pub part-skip : (xs : List ℕ) (x : ℕ) (ts : List ℕ) → is_part ts xs ≡ true → is_part ts (x ∷ xs) ≡ true
part-skip xs = part-skip_from xs (part-tail xs)

-- both lists with one more head
pub part-cons : (x : ℕ) (ts xs : List ℕ) → is_part ts xs ≡ true → is_part (x ∷ ts) (x ∷ xs) ≡ true
part-cons x ts xs h = rw (eqb-same x) h

-- a part of a part is a part
pub part-trans : (xs ys zs : List ℕ) → is_part xs ys ≡ true → is_part ys zs ≡ true → is_part xs zs ≡ true
part-trans [] ys zs h k = part-nil zs
part-trans (x ∷ xs) [] zs h k = absurd (false≢true h)
part-trans (x ∷ xs) (y ∷ ys) [] h k = absurd (false≢true k)
part-trans (x ∷ xs) (y ∷ ys) (z ∷ zs) h k = elim (eqb_tells y z) [
  | inl p ↦ elim (eqb_tells x y) [
    | inl q ↦ rw (eq-eqb x z (q.1 ∙ p.1)) (part-trans xs ys zs (rw q.0 at h) (rw p.0 at k))
    | inr q ↦ part-skip zs z (x ∷ xs) (part-trans (x ∷ xs) ys zs (rw q.0 at h) (rw p.0 at k))
  ]
  | inr p ↦ part-skip zs z (x ∷ xs) (part-trans (x ∷ xs) (y ∷ ys) zs h (rw p.0 at k))
]

-- a part is not longer
pub part-le : (ts xs : List ℕ) → is_part ts xs ≡ true → length ts ≤ length xs
part-le [] xs h = omega arith
part-le (t ∷ ts) [] h = absurd (false≢true h)
part-le (t ∷ ts) (x ∷ xs) h = elim (eqb_tells t x) [
  | inl p ↦ let k : length ts ≤ length xs = part-le ts xs (rw p.0 at h) in omega arith
  | inr p ↦ let k : length (t ∷ ts) ≤ length xs = part-le (t ∷ ts) xs (rw p.0 at h) in omega arith
]

-- a part is shorter, or the whole
pub part-length : (ts xs : List ℕ) → is_part ts xs ≡ true → (length ts < length xs) ⊎ (ts ≡ xs)
part-length [] [] h = inr refl
part-length [] (x ∷ xs) h = inl (omega arith)
part-length (t ∷ ts) [] h = absurd (false≢true h)
part-length (t ∷ ts) (x ∷ xs) h = elim (eqb_tells t x) [
  | inl p ↦ elim (part-length ts xs (rw p.0 at h)) [
    | inl q ↦ inl (omega arith)
    | inr q ↦ inr cc
  ]
  | inr p ↦ let k : length (t ∷ ts) ≤ length xs = part-le (t ∷ ts) xs (rw p.0 at h) in inl (omega arith)
]

-- each item of a part is an item of the whole
pub part-has : (ts xs : List ℕ) (n : ℕ) → is_part ts xs ≡ true → Has ts n → Has xs n
part-has [] xs n h m = absurd m
part-has (t ∷ ts) [] n h m = absurd (false≢true h)
part-has (t ∷ ts) (x ∷ xs) n h m = elim (eqb_tells t x) [
  | inl p ↦ elim m [
    | inl e ↦ inl (sym p.1 ∙ e)
    | inr r ↦ inr (part-has ts xs n (rw p.0 at h) r)
  ]
  | inr p ↦ inr (part-has (t ∷ ts) xs n (rw p.0 at h) m)
]

-- numbers above x are above each number that is not above x
pub all_above-lower : (w x : ℕ) (xs : List ℕ) → w ≤ x → all_above x xs ≡ true → all_above w xs ≡ true
all_above-lower w x [] h k = refl
all_above-lower w x (y ∷ ys) h k =
    let p = and_parts (nat_lt x y) (all_above x ys) k in
    let lt : x < y = ltb-true x y p.0 in
    and_from (nat_lt w y) (all_above w ys) (lt-ltb w y (omega arith)) (all_above-lower w x ys h p.1)

-- no number of a list above x is x
pub all_above-occurs : (x : ℕ) (xs : List ℕ) → all_above x xs ≡ true → occurs xs x ≡ false
all_above-occurs x [] h = refl
all_above-occurs x (y ∷ ys) h =
    let p = and_parts (nat_lt x y) (all_above x ys) h in
    let lt : x < y = ltb-true x y p.0 in
    rw (ne_eqb y x (λ e. omega arith)) (all_above-occurs x ys p.1)

-- the parts of a list above x are above x
pub part-all_above : (x : ℕ) (ts xs : List ℕ) → is_part ts xs ≡ true → all_above x xs ≡ true → all_above x ts ≡ true
part-all_above x [] xs h k = refl
part-all_above x (t ∷ ts) [] h k = absurd (false≢true h)
part-all_above x (t ∷ ts) (y ∷ ys) h k =
    let q = and_parts (nat_lt x y) (all_above x ys) k in
    elim (eqb_tells t y) [
      | inl p ↦ and_from (nat_lt x t) (all_above x ts) (ap (λ v. nat_lt x v) p.1 ∙ q.0) (part-all_above x ts ys (rw p.0 at h) q.1)
      | inr p ↦ part-all_above x (t ∷ ts) ys (rw p.0 at h) q.1
    ]

-- the parts of a set are sets
pub part-ascending : (ts xs : List ℕ) → is_part ts xs ≡ true → is_ascending xs ≡ true → is_ascending ts ≡ true
part-ascending [] xs h k = refl
part-ascending (t ∷ ts) [] h k = absurd (false≢true h)
part-ascending (t ∷ ts) (y ∷ ys) h k =
    let q = and_parts (all_above y ys) (is_ascending ys) k in
    elim (eqb_tells t y) [
      | inl p ↦ and_from (all_above t ts) (is_ascending ts) (ap (λ v. all_above v ts) p.1 ∙ part-all_above y ts ys (rw p.0 at h) q.0) (part-ascending ts ys (rw p.0 at h) q.1)
      | inr p ↦ part-ascending (t ∷ ts) ys (rw p.0 at h) q.1
    ]

-- what occurs in a list is an item of it, and the other way round
pub occurs-has : (xs : List ℕ) (x : ℕ) → occurs xs x ≡ true → Has xs x
occurs-has [] x h = absurd (false≢true h)
occurs-has (y ∷ ys) x h = elim (eqb_tells y x) [
  | inl p ↦ inl p.1
  | inr p ↦ inr (occurs-has ys x (rw p.0 at h))
]

-- An item of a list occurs in it.
pub has-occurs : (xs : List ℕ) (x : ℕ) → Has xs x → occurs xs x ≡ true
has-occurs [] x h = absurd h
has-occurs (y ∷ ys) x h = elim (eqb_tells y x) [
  | inl p ↦ rw p.0 refl
  | inr p ↦ rw p.0 (elim h [ inl e ↦ absurd (p.1 e) | inr r ↦ has-occurs ys x r ])
]

-- each item of a list above x is greater than x
pub all_above-has : (x : ℕ) (xs : List ℕ) (n : ℕ) → all_above x xs ≡ true → Has xs n → x < n
all_above-has x [] n h m = absurd m
all_above-has x (y ∷ ys) n h m =
    let p = and_parts (nat_lt x y) (all_above x ys) h in
    elim m [
      | inl e ↦ let lt : x < y = ltb-true x y p.0 in omega arith
      | inr r ↦ all_above-has x ys n p.1 r
    ]

-- of two sets, one whose members are all members of the other is a part of it
pub part-from_has : (ts xs : List ℕ) → is_ascending ts ≡ true → is_ascending xs ≡ true → ((n : ℕ) → Has ts n → Has xs n) → is_part ts xs ≡ true
part-from_has [] xs h k each = part-nil xs
part-from_has (t ∷ ts) [] h k each = absurd (each t (inl refl))
part-from_has (t ∷ ts) (x ∷ xs) h k each =
    let p = and_parts (all_above t ts) (is_ascending ts) h in
    let q = and_parts (all_above x xs) (is_ascending xs) k in
    elim (each t (inl refl)) [
      | inl e ↦ rw (eq-eqb t x (sym e)) (part-from_has ts xs p.1 q.1 (λ n m. elim (each n (inr m)) [
        | inl d ↦ let lt : t < n = all_above-has t ts n p.0 m in absurd (omega arith)
        | inr r ↦ r
      ]))
      | inr r ↦
          let lt : x < t = all_above-has x xs t q.0 r in
          rw (ne_eqb t x (λ e. omega arith)) (part-from_has (t ∷ ts) xs h q.1 (λ n m. elim (each n m) [
            | inl d ↦ elim m [
              | inl c ↦ absurd (omega arith)
              | inr s ↦ let above : t < n = all_above-has t ts n p.0 s in absurd (omega arith)
            ]
            | inr s ↦ s
          ]))
    ]

-- two sets with the same members are the same
pub sets-same : (xs ys : List ℕ) → is_ascending xs ≡ true → is_ascending ys ≡ true → ((n : ℕ) → occurs xs n ≡ occurs ys n) → xs ≡ ys
sets-same xs ys h k same =
    let into : is_part xs ys ≡ true = part-from_has xs ys h k (λ n m. occurs-has ys n (sym (same n) ∙ has-occurs xs n m)) in
    let back : is_part ys xs ≡ true = part-from_has ys xs k h (λ n m. occurs-has xs n (same n ∙ has-occurs ys n m)) in
    let le : length ys ≤ length xs = part-le ys xs back in
    elim (part-length xs ys into) [
      | inl shorter ↦ absurd (omega arith)
      | inr e ↦ e
    ]
