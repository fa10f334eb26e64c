-- The union of two sets with a number below them, in one of them or both.
use Rattle.std.proofs.Common.{◌≡◌, ℕ, ◌+◌, ◌/◌, ◌%◌, ◌<◌, ◌==◌, ◌&&◌, ◌||◌, Bool, true, false, not, nat_lt, List, [], ◌∷◌, length, map, filter, refl, sym, ap, ap₂, subst, ◌∙◌, inl, inr, arith}
use Rattle.std.proofs.lemmas.Bool.{false≢true, and_parts, and_from, lt-ltb, ltb-true, eq-eqb, ne_eqb, or_cases, not-true, false_from_ne_true}
use Rattle.std.proofs.lemmas.Bool.Decides.{eqb_tells}
use Rattle.psa_logic.specs.Sets.{all_above, is_ascending, occurs}
use Rattle.psa_logic.specs.Products.{rank_of, is_positive, is_consistent}
use Rattle.psa_logic.proofs.PartLemmas.{eqb-same, all_above-has, all_above-occurs, occurs-has}
use Rattle.psa_nodes.specs.Families.{IsUnionOf}
use Rattle.psa_zbdd.specs.FamilyProducts.{weight}
use Rattle.psa_families.proofs.JoinedLemmas.{with_or_not}

with-occurs : (x : ℕ) (b : Bool) (l : List ℕ) (y : ℕ) → occurs (with_or_not x b l) y ≡ ((b && (x == y)) || occurs l y)
with-occurs x true l y = refl
with-occurs x false l y = refl

pub above-occurs : (x : ℕ) (l : List ℕ) (y : ℕ) → all_above x l ≡ true → occurs l y ≡ true → x < y
above-occurs x l y h o = all_above-has x l y h (occurs-has l y o)

pub above-from : (x : ℕ) (l : List ℕ) → ((y : ℕ) → occurs l y ≡ true → x < y) → all_above x l ≡ true
above-from x [] each = refl
above-from x (y ∷ ys) each =
    and_from (nat_lt x y) (all_above x ys) (lt-ltb x y (each y (own y ys))) (above-from x ys (λ z o. each z (later z o)))
  where
    own : (y : ℕ) (ys : List ℕ) → occurs (y ∷ ys) y ≡ true
    own y ys = rw (eqb-same y) refl

    or-right : (a b : Bool) → b ≡ true → (a || b) ≡ true
    or-right true b h = refl
    or-right false b h = h

    later : (z : ℕ) → occurs ys z ≡ true → occurs (y ∷ ys) z ≡ true
    later z o = or-right (y == z) (occurs ys z) o

pub or-left : (a b : Bool) → a ≡ true → (a || b) ≡ true
or-left a b h = rw h refl

pub or-right : (a b : Bool) → b ≡ true → (a || b) ≡ true
or-right true b h = refl
or-right false b h = h

pub union-above : (x : ℕ) (l r s : List ℕ) → IsUnionOf l r s → all_above x l ≡ true → all_above x r ≡ true → all_above x s ≡ true
union-above x l r s u al ar = above-from x s (λ y o. elim (or_cases (occurs l y) (occurs r y) (sym (u.members y) ∙ o)) [
  | inl p ↦ above-occurs x l y al p
  | inr p ↦ above-occurs x r y ar p
])

pub above-left : (x : ℕ) (l r s : List ℕ) → IsUnionOf l r s → all_above x s ≡ true → all_above x l ≡ true
above-left x l r s u whole = above-from x l (λ y o. above-occurs x s y whole (u.members y ∙ or-left (occurs l y) (occurs r y) o))

pub above-right : (x : ℕ) (l r s : List ℕ) → IsUnionOf l r s → all_above x s ≡ true → all_above x r ≡ true
above-right x l r s u whole = above-from x r (λ y o. above-occurs x s y whole (u.members y ∙ or-right (occurs l y) (occurs r y) o))

joined-bools : (a b e p q : Bool) → (a || b) ≡ true → (e || (p || q)) ≡ (((a && e) || p) || ((b && e) || q))
joined-bools true b true p q h = refl
joined-bools true true false p q h = refl
joined-bools true false false p q h = refl
joined-bools false true true true q h = refl
joined-bools false true true false q h = refl
joined-bools false true false p q h = refl
joined-bools false false e p q h = absurd (false≢true h)

-- with x, in the left set, the right one or both
pub union-with : (x : ℕ) (a b : Bool) (l r s : List ℕ) → (a || b) ≡ true → all_above x s ≡ true → IsUnionOf l r s → IsUnionOf (with_or_not x a l) (with_or_not x b r) (x ∷ s)
union-with x a b l r s some above u = record {
  ascending = and_from (all_above x s) (is_ascending s) above u.ascending;
  members = λ y.
      ap (λ v. (x == y) || v) (u.members y) ∙ joined-bools a b (x == y) (occurs l y) (occurs r y) some
      ∙ sym (ap₂ (λ v w. v || w) (with-occurs x a l y) (with-occurs x b r y));
}

apart-bools : (a b e v p q : Bool) → e ≡ false → (e || v) ≡ (((a && e) || p) || ((b && e) || q)) → v ≡ (p || q)
apart-bools true true false v p q e h = h
apart-bools true false false v p q e h = h
apart-bools false true false v p q e h = h
apart-bools false false false v p q e h = h
apart-bools a b true v p q e h = absurd (false≢true (sym e))

-- and without it again
pub union-without : (x : ℕ) (a b : Bool) (l r s : List ℕ) → all_above x l ≡ true → all_above x r ≡ true → IsUnionOf (with_or_not x a l) (with_or_not x b r) (x ∷ s) → IsUnionOf l r s
union-without x a b l r s al ar u =
    let parts = and_parts (all_above x s) (is_ascending s) u.ascending in
    record {
      ascending = parts.1;
      members = λ y. elim (eqb_tells x y) [
        | inl p ↦ none parts.0 y p.1
        | inr p ↦ apart-bools a b (x == y) (occurs s y) (occurs l y) (occurs r y) p.0
            (u.members y ∙ ap₂ (λ v w. v || w) (with-occurs x a l y) (with-occurs x b r y))
      ];
    }
  where
    none : all_above x s ≡ true → (y : ℕ) → x ≡ y → occurs s y ≡ (occurs l y || occurs r y)
    none whole y e =
        subst (λ (z : ℕ). occurs s z ≡ (occurs l z || occurs r z)) e
        (all_above-occurs x s whole ∙ sym (ap₂ (λ v w. v || w) (all_above-occurs x l al) (all_above-occurs x r ar)))

-- x is in one of the two
pub union-head : (x : ℕ) (a b : Bool) (l r s : List ℕ) → all_above x l ≡ true → all_above x r ≡ true → IsUnionOf (with_or_not x a l) (with_or_not x b r) (x ∷ s) → (a || b) ≡ true
union-head x true b l r s al ar u = refl
union-head x false true l r s al ar u = refl
union-head x false false l r s al ar u =
    absurd (false≢true (sym (ap₂ (λ v w. v || w) (all_above-occurs x l al) (all_above-occurs x r ar)) ∙ sym (u.members x) ∙ own))
  where
    own : occurs (x ∷ s) x ≡ true
    own = rw (eqb-same x) refl

-- A literal goes with those above it where the opposite literal is not among them.
twin : (x y : ℕ) → x < y → y / 2 ≡ x / 2 → (y ≡ x + 1) × (x % 2 ≡ 0)
twin x y lt e = (omega (arith, lt, e), omega (arith, lt, e))

pub apart-ranks : (x : ℕ) (s : List ℕ) → all_above x s ≡ true → (is_positive x ≡ true → occurs s (x + 1) ≡ false) → occurs (map (λ l. rank_of l) s) (rank_of x) ≡ false
apart-ranks x [] above clear = refl
apart-ranks x (y ∷ ys) above clear =
    let parts = and_parts (nat_lt x y) (all_above x ys) above in
    elim (eqb_tells (rank_of y) (rank_of x)) [
      | inl p ↦
          let t = twin x y (ltb-true x y parts.0) p.1 in
          absurd (false≢true (sym (clear (eq-eqb (x % 2) 0 t.1)) ∙ or-left (y == x + 1) (occurs ys (x + 1)) (eq-eqb y (x + 1) t.0)))
      | inr p ↦ rw p.0 (apart-ranks x ys parts.1 (λ even. later (y == x + 1) (occurs ys (x + 1)) (clear even)))
    ]
  where
    later : (a b : Bool) → (a || b) ≡ false → b ≡ false
    later true b h = absurd (false≢true (sym h))
    later false b h = h

half-twin : (x : ℕ) → x % 2 ≡ 0 → (x + 1) / 2 ≡ x / 2
half-twin x e = omega (arith, e)

occurs-rank : (s : List ℕ) (z : ℕ) → occurs s z ≡ true → occurs (map (λ l. rank_of l) s) (rank_of z) ≡ true
occurs-rank [] z o = o
occurs-rank (y ∷ ys) z o = elim (or_cases (y == z) (occurs ys z) o) [
  | inl p ↦ or-left (rank_of y == rank_of z) (occurs (map (λ l. rank_of l) ys) (rank_of z)) (eq-eqb (rank_of y) (rank_of z) (ap (λ n. rank_of n) (same y z p)))
  | inr p ↦ or-right (rank_of y == rank_of z) (occurs (map (λ l. rank_of l) ys) (rank_of z)) (occurs-rank ys z p)
]
  where
    same : (y z : ℕ) → (y == z) ≡ true → y ≡ z
    same y z h = elim (eqb_tells y z) [ inl p ↦ p.1 | inr p ↦ absurd (false≢true (sym p.0 ∙ h)) ]

pub ranks-apart : (x : ℕ) (s : List ℕ) → occurs (map (λ l. rank_of l) s) (rank_of x) ≡ false → is_positive x ≡ true → occurs s (x + 1) ≡ false
ranks-apart x s none even =
    false_from_ne_true (occurs s (x + 1)) (λ o. false≢true (sym none ∙ at-x (occurs-rank s (x + 1) o)))
  where
    half : x % 2 ≡ 0
    half = elim (eqb_tells (x % 2) 0) [ inl p ↦ p.1 | inr p ↦ absurd (false≢true (sym p.0 ∙ even)) ]

    at-x : occurs (map (λ l. rank_of l) s) (rank_of (x + 1)) ≡ true → occurs (map (λ l. rank_of l) s) (rank_of x) ≡ true
    at-x o = ap (λ n. occurs (map (λ l. rank_of l) s) n) (sym (half-twin x half)) ∙ o

pub consistent-with : (x : ℕ) (s : List ℕ) → all_above x s ≡ true → (is_positive x ≡ true → occurs s (x + 1) ≡ false) → is_consistent s ≡ true → is_consistent (x ∷ s) ≡ true
consistent-with x s above clear h =
    and_from (not (occurs (map (λ l. rank_of l) s) (rank_of x))) (is_consistent s) (ap (λ b. not b) (apart-ranks x s above clear)) h

pub consistent-parts : (x : ℕ) (s : List ℕ) → is_consistent (x ∷ s) ≡ true → (is_positive x ≡ true → occurs s (x + 1) ≡ false) × (is_consistent s ≡ true)
consistent-parts x s h =
    let p = and_parts (not (occurs (map (λ l. rank_of l) s) (rank_of x))) (is_consistent s) h in
    (λ even. ranks-apart x s (not-true (occurs (map (λ l. rank_of l) s) (rank_of x)) p.0) even, p.1)

pub count-with : (x : ℕ) (s : List ℕ) → length (filter is_positive (x ∷ s)) ≡ length (filter is_positive s) + weight x
count-with x s = by (is_positive x) refl
  where
    by : (b : Bool) → is_positive x ≡ b → length (filter is_positive (x ∷ s)) ≡ length (filter is_positive s) + weight x
    by true e = rw e (omega arith)
    by false e = rw e (omega arith)

pub weight-odd : (x : ℕ) → x % 2 ≡ 1 → weight x ≡ 0
weight-odd x e = rw (ne_eqb (x % 2) 0 (λ z. omega (arith, e, z))) refl

pub weight-even : (x : ℕ) → x % 2 ≡ 0 → (is_positive x ≡ true) × (weight x ≡ 1)
weight-even x e = (eq-eqb (x % 2) 0 e, rw (eq-eqb (x % 2) 0 e) refl)
