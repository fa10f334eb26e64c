-- Report order is a strict total order of lists of numbers.
use Rattle.std.proofs.Common.{◌≡◌, ◌⊎◌, ◌==◌, ℕ, ◌*◌, ◌<◌, true, false, List, [], ◌∷◌, length, nat_lt, ◌&&◌, refl, sym, ap, ◌∙◌, inl, inr, arith}
use Rattle.std.proofs.lemmas.Bool.{false≢true, eq-eqb, ne_eqb, and_parts, and_from, lt-ltb, le-ltb, ltb-true, cases_order, or_cases, or_left, or_right}
use Rattle.std.proofs.lemmas.Bool.Decides.{eqb_tells}
use Rattle.std.proofs.lemmas.List.{length-map}
use Rattle.psa_logic.specs.Products.{is_lexically_before, is_before, positive_product}
use Rattle.psa_logic.proofs.PartLemmas.{eqb-same}

-- the order of two lists whose heads are equal, the first is less, or the second is
pub lexical-same : (x : ℕ) (xs ys : List ℕ) → is_lexically_before (x ∷ xs) (x ∷ ys) ≡ is_lexically_before xs ys
lexical-same x xs ys = rw (le-ltb x x (omega arith), eqb-same x) refl

-- A list with a lesser head stands before the other.
pub lexical-less : (x y : ℕ) (xs ys : List ℕ) → x < y → is_lexically_before (x ∷ xs) (y ∷ ys) ≡ true
lexical-less x y xs ys h = rw (lt-ltb x y h) refl

-- A list with a greater head does not stand before the other.
pub lexical-more : (x y : ℕ) (xs ys : List ℕ) → y < x → is_lexically_before (x ∷ xs) (y ∷ ys) ≡ false
lexical-more x y xs ys h = rw (le-ltb x y (omega arith), ne_eqb x y (λ e. omega arith)) refl

-- No list stands lexicographically before itself.
pub lexical-irreflexive : (xs : List ℕ) → is_lexically_before xs xs ≡ false
lexical-irreflexive [] = refl
lexical-irreflexive (x ∷ xs) = lexical-same x xs xs ∙ lexical-irreflexive xs

-- what a list that stands before another tells of their heads
lexical-heads : (x y : ℕ) (xs ys : List ℕ) → is_lexically_before (x ∷ xs) (y ∷ ys) ≡ true → (x < y) ⊎ ((x ≡ y) × (is_lexically_before xs ys ≡ true))
lexical-heads x y xs ys h = elim (or_cases (nat_lt x y) ((x == y) && is_lexically_before xs ys) h) [
  | inl e ↦ inl (ltb-true x y e)
  | inr e ↦ inr (elim (eqb_tells x y) [ inl p ↦ (p.1, (and_parts (x == y) (is_lexically_before xs ys) e).1) | inr p ↦ absurd (false≢true (rw p.0 at e)) ])
]

-- The lexicographic order is transitive.
pub lexical-trans : (xs ys zs : List ℕ) → is_lexically_before xs ys ≡ true → is_lexically_before ys zs ≡ true → is_lexically_before xs zs ≡ true
lexical-trans [] [] zs h k = absurd (false≢true h)
lexical-trans [] (y ∷ ys) [] h k = absurd (false≢true k)
lexical-trans [] (y ∷ ys) (z ∷ zs) h k = refl
lexical-trans (x ∷ xs) [] zs h k = absurd (false≢true h)
lexical-trans (x ∷ xs) (y ∷ ys) [] h k = absurd (false≢true k)
lexical-trans (x ∷ xs) (y ∷ ys) (z ∷ zs) h k = elim (lexical-heads x y xs ys h) [
  | inl p ↦ elim (lexical-heads y z ys zs k) [
    | inl q ↦ lexical-less x z xs zs (omega arith)
    | inr q ↦ let e : y ≡ z = q.0 in lexical-less x z xs zs (omega arith)
  ]
  | inr p ↦ let d : x ≡ y = p.0 in elim (lexical-heads y z ys zs k) [
    | inl q ↦ lexical-less x z xs zs (omega arith)
    | inr q ↦
        let tail : is_lexically_before xs zs ≡ true = lexical-trans xs ys zs p.1 q.1 in
        or_right (nat_lt x z) ((x == z) && is_lexically_before xs zs) (and_from (x == z) (is_lexically_before xs zs) (eq-eqb x z (d ∙ q.0)) tail)
  ]
]

-- Of two lists that differ, one stands lexicographically before the other.
pub lexical-total : (xs ys : List ℕ) → (xs ≡ ys) ⊎ ((is_lexically_before xs ys ≡ true) ⊎ (is_lexically_before ys xs ≡ true))
lexical-total [] [] = inl refl
lexical-total [] (y ∷ ys) = inr (inl refl)
lexical-total (x ∷ xs) [] = inr (inr refl)
lexical-total (x ∷ xs) (y ∷ ys) = elim (cases_order x y) [
  | inl e ↦ elim (lexical-total xs ys) [
    | inl p ↦ inl cc
    | inr p ↦ inr (elim p [
      | inl q ↦ inl (or_right (nat_lt x y) ((x == y) && is_lexically_before xs ys) (and_from (x == y) (is_lexically_before xs ys) (eq-eqb x y e) q))
      | inr q ↦ inr (or_right (nat_lt y x) ((y == x) && is_lexically_before ys xs) (and_from (y == x) (is_lexically_before ys xs) (eq-eqb y x (sym e)) q))
    ])
  ]
  | inr o ↦ inr (elim o [ inl p ↦ inl (lexical-less x y xs ys p) | inr p ↦ inr (lexical-less y x ys xs p) ])
]

-- shorter lists stand before longer ones
pub before-shorter : (xs ys : List ℕ) → length xs < length ys → is_before xs ys ≡ true
before-shorter xs ys h = or_left (nat_lt (length xs) (length ys)) ((length xs == length ys) && is_lexically_before xs ys) (lt-ltb (length xs) (length ys) h)

-- of lists of one length the lexicographic order decides
pub before-lexical : (xs ys : List ℕ) → length xs ≡ length ys → is_lexically_before xs ys ≡ true → is_before xs ys ≡ true
before-lexical xs ys h k = or_right (nat_lt (length xs) (length ys)) ((length xs == length ys) && is_lexically_before xs ys) (and_from (length xs == length ys) (is_lexically_before xs ys) (eq-eqb (length xs) (length ys) h) k)

-- what a list that stands before another tells
pub before-tells : (xs ys : List ℕ) → is_before xs ys ≡ true → (length xs < length ys) ⊎ ((length xs ≡ length ys) × (is_lexically_before xs ys ≡ true))
before-tells xs ys h = elim (or_cases (nat_lt (length xs) (length ys)) ((length xs == length ys) && is_lexically_before xs ys) h) [
  | inl e ↦ inl (ltb-true (length xs) (length ys) e)
  | inr e ↦ inr (elim (eqb_tells (length xs) (length ys)) [ inl p ↦ (p.1, (and_parts (length xs == length ys) (is_lexically_before xs ys) e).1) | inr p ↦ absurd (false≢true (rw p.0 at e)) ])
]

-- The test of report order fails for a list and itself.
pub before-irreflexive : (xs : List ℕ) → is_before xs xs ≡ false
before-irreflexive xs = rw (le-ltb (length xs) (length xs) (omega arith), eqb-same (length xs)) (lexical-irreflexive xs)

-- no list stands before itself
pub before-not_self : (xs : List ℕ) → is_before xs xs ≡ true → ⊥
before-not_self xs h = false≢true (sym (before-irreflexive xs) ∙ h)

-- Report order is transitive.
pub before-trans : (xs ys zs : List ℕ) → is_before xs ys ≡ true → is_before ys zs ≡ true → is_before xs zs ≡ true
before-trans xs ys zs h k = elim (before-tells xs ys h) [
  | inl p ↦ elim (before-tells ys zs k) [
    | inl q ↦ before-shorter xs zs (omega arith)
    | inr q ↦ let e : length ys ≡ length zs = q.0 in before-shorter xs zs (omega arith)
  ]
  | inr p ↦ let d : length xs ≡ length ys = p.0 in elim (before-tells ys zs k) [
    | inl q ↦ before-shorter xs zs (omega arith)
    | inr q ↦ before-lexical xs zs (d ∙ q.0) (lexical-trans xs ys zs p.1 q.1)
  ]
]

-- Of two lists that differ, one stands before the other in report order.
pub before-total : (xs ys : List ℕ) → (xs ≡ ys) ⊎ ((is_before xs ys ≡ true) ⊎ (is_before ys xs ≡ true))
before-total xs ys = elim (cases_order (length xs) (length ys)) [
  | inl e ↦ elim (lexical-total xs ys) [
    | inl p ↦ inl p
    | inr p ↦ inr (elim p [ inl q ↦ inl (before-lexical xs ys e q) | inr q ↦ inr (before-lexical ys xs (sym e) q) ])
  ]
  | inr o ↦ inr (elim o [ inl p ↦ inl (before-shorter xs ys p) | inr p ↦ inr (before-shorter ys xs p) ])
]

-- one more head in front of both keeps the order
pub before-cons : (x : ℕ) (xs ys : List ℕ) → is_before xs ys ≡ true → is_before (x ∷ xs) (x ∷ ys) ≡ true
before-cons x xs ys h = elim (before-tells xs ys h) [
  | inl p ↦ before-shorter (x ∷ xs) (x ∷ ys) (omega arith)
  | inr p ↦ let e : length xs ≡ length ys = p.0 in before-lexical (x ∷ xs) (x ∷ ys) (omega arith) (lexical-same x xs ys ∙ p.1)
]

-- sets stand in the order of their products
doubled-lexical : (xs ys : List ℕ) → is_lexically_before xs ys ≡ true → is_lexically_before (positive_product xs) (positive_product ys) ≡ true
doubled-lexical [] [] h = h
doubled-lexical [] (y ∷ ys) h = refl
doubled-lexical (x ∷ xs) [] h = h
doubled-lexical (x ∷ xs) (y ∷ ys) h = elim (lexical-heads x y xs ys h) [
  | inl p ↦ lexical-less (2 * x) (2 * y) (positive_product xs) (positive_product ys) (omega arith)
  | inr p ↦
      let e : x ≡ y = p.0 in
      or_right (nat_lt (2 * x) (2 * y)) ((2 * x == 2 * y) && is_lexically_before (positive_product xs) (positive_product ys))
      (and_from (2 * x == 2 * y) (is_lexically_before (positive_product xs) (positive_product ys)) (eq-eqb (2 * x) (2 * y) (ap (λ n. 2 * n) e)) (doubled-lexical xs ys p.1))
]

-- The positive products of two sets stand in the order of the sets.
pub before-positive : (xs ys : List ℕ) → is_before xs ys ≡ true → is_before (positive_product xs) (positive_product ys) ≡ true
before-positive xs ys h =
    let l : length (positive_product xs) ≡ length xs = length-map xs (λ rank. 2 * rank) in
    let r : length (positive_product ys) ≡ length ys = length-map ys (λ rank. 2 * rank) in
    elim (before-tells xs ys h) [
      | inl p ↦ before-shorter (positive_product xs) (positive_product ys) (omega arith)
      | inr p ↦ before-lexical (positive_product xs) (positive_product ys) (l ∙ (p.0 ∙ sym r)) (doubled-lexical xs ys p.1)
    ]
