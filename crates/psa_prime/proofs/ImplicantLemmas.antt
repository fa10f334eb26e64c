-- Implicants of a decision by those of its sides, and prime implicants of truths that do not depend on small ranks.
use Rattle.std.proofs.Common.{◌≡◌, ℕ, ◌+◌, ◌*◌, ◌/◌, ◌%◌, ◌<◌, ◌≤◌, ◌&&◌, Bool, true, false, nat_lt, List, [], ◌∷◌, map, not, if◌then◌else◌, refl, sym, ap, ap₂, ◌∙◌, inl, inr, arith, ne_eqb}
use Rattle.std.proofs.lemmas.Bool.{false≢true, and_parts, and_from, lt-ltb, ltb-true, not-true}
use Rattle.std.proofs.lemmas.Bool.Decides.{eqb_tells, leb_tells}
use Rattle.psa_logic.specs.Sets.{all_above, is_ascending, occurs}
use Rattle.psa_logic.specs.Products.{rank_of, is_positive, is_consistent, holds_at, IsPrimeImplicant}
use Rattle.psa_logic.proofs.PartLemmas.{part-self, part-skip, all_above-lower}
use Rattle.psa_logic.proofs.LiteralLemmas.{literal_holds}
use Rattle.psa_nodes.proofs.CallerLemmas.{fixed}

-- a test of sets of ranks
abbrev pub Truth : Type 0
Truth = (ℕ → Bool) → Bool

-- a truth depends on the ranks from v on alone
abbrev pub DependsFrom : ℕ → Truth → Type 0
DependsFrom v f = (s t : ℕ → Bool) → ((y : ℕ) → v ≤ y → s y ≡ t y) → f s ≡ f t

-- the ranks of a product's literals
abbrev pub ranks_in : List ℕ → List ℕ
ranks_in product = map (λ l. rank_of l) product

-- a literal holds alike at tests that agree on its rank
literal-same : (l : ℕ) (a b : Bool) → a ≡ b → (if is_positive l then a else not a) ≡ (if is_positive l then b else not b)
literal-same l a b e = ap (λ (c : Bool). if is_positive l then c else not c) e

-- a product past the literals of x holds alike at tests that agree past x
pub holds-past : (x : ℕ) (s t : ℕ → Bool) → ((y : ℕ) → x + 1 ≤ y → s y ≡ t y) → (product : List ℕ) → all_above (2 * x + 1) product ≡ true → holds_at s product ≡ holds_at t product
holds-past x s t same [] h = refl
holds-past x s t same (l ∷ ls) h =
    let p = and_parts (nat_lt (2 * x + 1) l) (all_above (2 * x + 1) ls) h in
    let lt : 2 * x + 1 < l = ltb-true (2 * x + 1) l p.0 in
    let rank : x + 1 ≤ l / 2 = omega (arith, lt) in
    ap₂ (λ (a b : Bool). a && b) (literal-same l (s (l / 2)) (t (l / 2)) (same (l / 2) rank)) (holds-past x s t same ls p.1)

-- and has no literal of a rank up to x
pub ranks-past : (x : ℕ) (product : List ℕ) → all_above (2 * x + 1) product ≡ true → (y : ℕ) → y ≤ x → occurs (ranks_in product) y ≡ false
ranks-past x [] h y le = refl
ranks-past x (l ∷ ls) h y le =
    let p = and_parts (nat_lt (2 * x + 1) l) (all_above (2 * x + 1) ls) h in
    let lt : 2 * x + 1 < l = ltb-true (2 * x + 1) l p.0 in
    rw (ne_eqb (l / 2) y (λ e. omega (arith, lt, le, e))) (ranks-past x ls p.1 y le)

-- a product above a literal of x, with no other literal of x, is past the literals of x
pub past-others : (x l : ℕ) → 2 * x ≤ l → (product : List ℕ) → all_above l product ≡ true → occurs (ranks_in product) x ≡ false → all_above (2 * x + 1) product ≡ true
past-others x l le [] h none = refl
past-others x l le (k ∷ ks) h none = elim (eqb_tells (k / 2) x) [
  | inl q ↦ absurd (false≢true (sym none ∙ (rw q.0 refl)))
  | inr q ↦
      let p = and_parts (nat_lt l k) (all_above l ks) h in
      let lt : l < k = ltb-true l k p.0 in
      and_from (nat_lt (2 * x + 1) k) (all_above (2 * x + 1) ks) (lt-ltb (2 * x + 1) k (past k lt q.1)) (past-others x l le ks p.1 (rw q.0 at none))
]
  where
    past : (n : ℕ) → l < n → (n / 2 ≡ x → ⊥) → 2 * x + 1 < n
    past n lt ne = omega (arith, le, lt, ne)

-- a product with no literal of a rank holds whether or not the rank's event occurs
holds-other : (r : ℕ) (b : Bool) (s : ℕ → Bool) (product : List ℕ) → occurs (ranks_in product) r ≡ false → holds_at (fixed s r b) product ≡ holds_at s product
holds-other r b s [] none = refl
holds-other r b s (l ∷ ls) none = elim (eqb_tells (l / 2) r) [
  | inl q ↦ absurd (false≢true (sym none ∙ (rw q.0 refl)))
  | inr q ↦ ap₂ (λ (x y : Bool). x && y) (literal-same l (fixed s r b (l / 2)) (s (l / 2)) (rw q.0 refl)) (holds-other r b s ls (rw q.0 at none))
]

-- a literal holds where its event is put in or out as it says
fixed-literal : (l : ℕ) (s : ℕ → Bool) → literal_holds (fixed s (l / 2) (is_positive l)) l ≡ true
fixed-literal l s = elim (eqb_tells (l / 2) (l / 2)) [
  | inl q ↦ elim (eqb_tells (l % 2) 0) [ inl p ↦ rw (q.0, p.0) refl | inr p ↦ rw (q.0, p.0) refl ]
  | inr q ↦ absurd (q.1 refl)
]

-- the literals of a prime implicant are of ranks that the truth depends on
pub prime-head : (v : ℕ) (f : Truth) → DependsFrom v f → (y : ℕ) (ys : List ℕ) → IsPrimeImplicant f (y ∷ ys) → v ≤ y / 2
prime-head v f from y ys m = elim (leb_tells v (y / 2)) [
  | inl p ↦ p.1
  | inr p ↦
      let lone : occurs (ranks_in ys) (y / 2) ≡ false = not-true (occurs (ranks_in ys) (y / 2)) (and_parts (not (occurs (ranks_in ys) (y / 2))) (is_consistent ys) m.consistent).0 in
      absurd (m.prime ys (part-skip ys y ys (part-self ys)) refl (λ s h.
      from s (fixed s (y / 2) (is_positive y)) (λ z le. sym (other s z (omega (arith, le, p.1))))
      ∙ m.implicant (fixed s (y / 2) (is_positive y))
      (and_from (literal_holds (fixed s (y / 2) (is_positive y)) y) (holds_at (fixed s (y / 2) (is_positive y)) ys) (fixed-literal y s) (holds-other (y / 2) (is_positive y) s ys lone ∙ h))))
]
  where
    other : (s : ℕ → Bool) (z : ℕ) → (z ≡ y / 2 → ⊥) → fixed s (y / 2) (is_positive y) z ≡ s z
    other s z ne = rw (ne_eqb z (y / 2) ne) refl

-- so those of a truth that depends on the ranks past x alone are past the literals of x
pub prime-above : (x : ℕ) (f : Truth) → DependsFrom (x + 1) f → (product : List ℕ) → IsPrimeImplicant f product → all_above (2 * x + 1) product ≡ true
prime-above x f from [] m = refl
prime-above x f from (y ∷ ys) m =
    let le : x + 1 ≤ y / 2 = prime-head (x + 1) f from y ys m in
    let above : all_above y ys ≡ true = (and_parts (all_above y ys) (is_ascending ys) m.ascending).0 in
    and_from (nat_lt (2 * x + 1) y) (all_above (2 * x + 1) ys) (lt-ltb (2 * x + 1) y (omega (arith, le))) (all_above-lower (2 * x + 1) y ys (omega (arith, le)) above)
