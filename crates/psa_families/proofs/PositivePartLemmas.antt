-- The members of a family without their literals of events that do not occur, by its sides.
use Rattle.std.proofs.Common.{◌≡◌, ◌↔◌, ℕ, ◌<◌, ◌||◌, nat_lt, Bool, true, false, List, [], ◌∷◌, filter, refl, sym, ap, subst, ◌∙◌, inl, inr, arith}
use Rattle.std.proofs.lemmas.Bool.{and_from, and_parts, or_cases, or_left, or_right}
use Rattle.std.proofs.lemmas.Bool.Decides.{eqb_tells}
use Rattle.psa_logic.specs.Sets.{all_above}
use Rattle.psa_logic.specs.Products.{is_positive}
use Rattle.psa_nodes.specs.Families.{IsPositivePart}
use Rattle.psa_nodes.specs.Readings.{joined}
use Rattle.psa_nodes.proofs.CallerLemmas.{AreAbove, above-head}
use Rattle.psa_families.proofs.JoinedLemmas.{with_or_not, Member, member-of, low-joined, high-joined}

-- a literal of an event that occurs stays, and one of another is dropped
pub positive-kept : (x : ℕ) (set : List ℕ) → is_positive x ≡ true → filter is_positive (x ∷ set) ≡ x ∷ filter is_positive set
positive-kept x set e = rw e refl

pub positive-dropped : (x : ℕ) (set : List ℕ) → is_positive x ≡ false → filter is_positive (x ∷ set) ≡ filter is_positive set
positive-dropped x set e = rw e refl

-- what is left of a set above x is above x
pub positive-above : (x : ℕ) (set : List ℕ) → all_above x set ≡ true → all_above x (filter is_positive set) ≡ true
positive-above x [] h = refl
positive-above x (y ∷ ys) h = by (positive-above x ys (and_parts (nat_lt x y) (all_above x ys) h).1) (is_positive y) refl
  where
    by : all_above x (filter is_positive ys) ≡ true → (b : Bool) → is_positive y ≡ b → all_above x (filter is_positive (y ∷ ys)) ≡ true
    by rest true e = rw e (and_from (nat_lt x y) (all_above x (filter is_positive ys)) (and_parts (nat_lt x y) (all_above x ys) h).0 rest)
    by rest false e = rw e rest

module _ (x : ℕ) (f1 f0 h1 h0 : List ℕ → Bool) (a1 : AreAbove x f1) (a0 : AreAbove x f0)
    (high : (set : List ℕ) → (h1 set ≡ true) ↔ IsPositivePart f1 set) (low : (set : List ℕ) → (h0 set ≡ true) ↔ IsPositivePart f0 set) where
  abbrev whole : List ℕ → Bool
  whole = joined x f1 f0

  low-to : (set : List ℕ) → h0 set ≡ true → IsPositivePart whole set
  low-to set m = let c = (low set).0 m in record { whole = c.whole; member = low-joined x f1 f0 a0 c.whole c.member; positive = c.positive }

  -- a member of the whole, by its sides
  sides : (set : List ℕ) (c : IsPositivePart whole set) → Member x f1 f0 c.whole
  sides set c = member-of x f1 f0 a1 a0 c.whole c.member

  -- one without the variable
  from-low : (set : List ℕ) (c : IsPositivePart whole set) (m : Member x f1 f0 c.whole) → m.flag ≡ false → h0 set ≡ true
  from-low set c m e =
      let same : c.whole ≡ m.rest = m.is ∙ ap (λ b. with_or_not x b m.rest) e in
      (low set).1 (record { whole = m.rest; member = m.low e; positive = c.positive ∙ ap (λ (l : List ℕ). filter is_positive l) same })

  headed : (set : List ℕ) (c : IsPositivePart whole set) (m : Member x f1 f0 c.whole) → m.flag ≡ true → set ≡ filter is_positive (x ∷ m.rest)
  headed set c m e = c.positive ∙ ap (λ (l : List ℕ). filter is_positive l) (m.is ∙ ap (λ b. with_or_not x b m.rest) e)

  -- where the variable is of an event that does not occur: either side's
  module _ (odd : is_positive x ≡ false) where
    either-to : (set : List ℕ) → (h1 set || h0 set) ≡ true → IsPositivePart whole set
    either-to set m = elim (or_cases (h1 set) (h0 set) m) [
      | inl p ↦
          let c = (high set).0 p in
          record { whole = x ∷ c.whole; member = high-joined x f1 f0 c.whole c.member; positive = c.positive ∙ sym (positive-dropped x c.whole odd) }
      | inr p ↦ low-to set p
    ]

    either-from : (set : List ℕ) → IsPositivePart whole set → (h1 set || h0 set) ≡ true
    either-from set c = by (sides set c).flag refl
      where
        m : Member x f1 f0 c.whole
        m = sides set c

        by : (b : Bool) → m.flag ≡ b → (h1 set || h0 set) ≡ true
        by true e = or_left (h1 set) (h0 set) ((high set).1 (record { whole = m.rest; member = m.high e; positive = headed set c m e ∙ positive-dropped x m.rest odd }))
        by false e = or_right (h1 set) (h0 set) (from-low set c m e)

    pub positive-either : (set : List ℕ) → ((h1 set || h0 set) ≡ true) ↔ IsPositivePart whole set
    positive-either set = (λ m. either-to set m, λ c. either-from set c)

  -- where it is of one that does: with it the high side's, without it the low side's
  module _ (even : is_positive x ≡ true) where
    high-to : (set : List ℕ) → h1 set ≡ true → IsPositivePart whole (x ∷ set)
    high-to set m =
        let c = (high set).0 m in
        record { whole = x ∷ c.whole; member = high-joined x f1 f0 c.whole c.member; positive = ap (λ (l : List ℕ). x ∷ l) c.positive ∙ sym (positive-kept x c.whole even) }

    heads : {y z : ℕ} {ys zs : List ℕ} → y ∷ ys ≡ z ∷ zs → y ≡ z
    heads e = cc

    rests : {y z : ℕ} {ys zs : List ℕ} → y ∷ ys ≡ z ∷ zs → ys ≡ zs
    rests e = cc

    empty : {z : ℕ} {zs : List ℕ} → [] ≡ z ∷ zs → ⊥
    empty e = cc

    high-from : (set : List ℕ) → IsPositivePart whole (x ∷ set) → h1 set ≡ true
    high-from set c = by (sides (x ∷ set) c).flag refl
      where
        m : Member x f1 f0 c.whole
        m = sides (x ∷ set) c

        by : (b : Bool) → m.flag ≡ b → h1 set ≡ true
        by true e = (high set).1 (record { whole = m.rest; member = m.high e; positive = rests (headed (x ∷ set) c m e ∙ positive-kept x m.rest even) })
        by false e =
            let same : c.whole ≡ m.rest = m.is ∙ ap (λ b. with_or_not x b m.rest) e in
            let left : x ∷ set ≡ filter is_positive m.rest = c.positive ∙ ap (λ (l : List ℕ). filter is_positive l) same in
            let lt : x < x = above-head x x set (subst (λ (l : List ℕ). all_above x l ≡ true) (sym left) (positive-above x m.rest m.above)) in
            absurd (omega (arith, lt))

    low-empty : IsPositivePart whole [] → h0 [] ≡ true
    low-empty c = by (sides [] c).flag refl
      where
        by : (b : Bool) → (sides [] c).flag ≡ b → h0 [] ≡ true
        by true e = absurd (empty (headed [] c (sides [] c) e ∙ positive-kept x (sides [] c).rest even))
        by false e = from-low [] c (sides [] c) e

    low-other : (y : ℕ) (ys : List ℕ) → (y ≡ x → ⊥) → IsPositivePart whole (y ∷ ys) → h0 (y ∷ ys) ≡ true
    low-other y ys ne c = by (sides (y ∷ ys) c).flag refl
      where
        by : (b : Bool) → (sides (y ∷ ys) c).flag ≡ b → h0 (y ∷ ys) ≡ true
        by true e = absurd (ne (heads (headed (y ∷ ys) c (sides (y ∷ ys) c) e ∙ positive-kept x (sides (y ∷ ys) c).rest even)))
        by false e = from-low (y ∷ ys) c (sides (y ∷ ys) c) e

    pub positive-sides : (set : List ℕ) → (joined x h1 h0 set ≡ true) ↔ IsPositivePart whole set
    positive-sides [] = (λ m. low-to [] m, λ c. low-empty c)
    positive-sides (y ∷ ys) = elim (eqb_tells y x) [
      | inl q ↦ rw q.0 (subst (λ (v : ℕ). (h1 ys ≡ true) ↔ IsPositivePart whole (v ∷ ys)) (sym q.1) (λ m. high-to ys m, λ c. high-from ys c))
      | inr q ↦ rw q.0 (λ m. low-to (y ∷ ys) m, λ c. low-other y ys q.1 c)
    ]
