-- A member of a family by its sides: with the variable, or without it.
use Rattle.std.proofs.Common.{◌≡◌, ℕ, ◌<◌, nat_lt, Bool, true, false, List, [], ◌∷◌, refl, sym, ap, ◌∙◌, inl, inr, arith}
use Rattle.std.proofs.lemmas.Bool.{false≢true, and_from, lt-ltb}
use Rattle.std.proofs.lemmas.Bool.Decides.{eqb_tells}
use Rattle.psa_logic.specs.Sets.{all_above}
use Rattle.psa_logic.proofs.PartLemmas.{all_above-lower}
use Rattle.psa_nodes.specs.Readings.{joined}
use Rattle.psa_nodes.proofs.CallerLemmas.{AreAbove, above-head, joined-own, joined-other}

-- the set with x, or without it
abbrev pub with_or_not : ℕ → Bool → List ℕ → List ℕ
with_or_not x true l = x ∷ l
with_or_not x false l = l

-- a member of a family by its sides: with x, or without it
pub record Member (x : ℕ) (hi lo : List ℕ → Bool) (set : List ℕ) : Type 0 where
  pub flag : Bool
  pub rest : List ℕ
  pub is : set ≡ with_or_not x flag rest
  pub above : all_above x rest ≡ true
  pub high : flag ≡ true → hi rest ≡ true
  pub low : flag ≡ false → lo rest ≡ true

-- each member is one
pub member-of : (x : ℕ) (hi lo : List ℕ → Bool) → AreAbove x hi → AreAbove x lo → (set : List ℕ) → joined x hi lo set ≡ true → Member x hi lo set
member-of x hi lo ah al [] m = record { flag = false; rest = []; is = refl; above = refl; high = λ e. absurd (false≢true e); low = λ e. m }
member-of x hi lo ah al (y ∷ ys) m = elim (eqb_tells y x) [
  | inl p ↦
      let h : hi ys ≡ true = rw p.0 at m in
      record { flag = true; rest = ys; is = ap (λ (z : ℕ). z ∷ ys) p.1; above = ah ys h; high = λ e. h; low = λ e. absurd (false≢true (sym e)) }
  | inr p ↦
      let l : lo (y ∷ ys) ≡ true = rw p.0 at m in
      record { flag = false; rest = y ∷ ys; is = refl; above = al (y ∷ ys) l; high = λ e. absurd (false≢true e); low = λ e. l }
]

-- a set of the low side is a member
pub low-joined : (x : ℕ) (hi lo : List ℕ → Bool) → AreAbove x lo → (set : List ℕ) → lo set ≡ true → joined x hi lo set ≡ true
low-joined x hi lo al [] m = m
low-joined x hi lo al (y ∷ ys) m =
    let lt : x < y = above-head x y ys (al (y ∷ ys) m) in
    joined-other x hi lo y ys (λ e. omega (arith, lt, e)) ∙ m

-- and one of the high side is with the variable
pub high-joined : (x : ℕ) (hi lo : List ℕ → Bool) (set : List ℕ) → hi set ≡ true → joined x hi lo (x ∷ set) ≡ true
high-joined x hi lo set m = joined-own x hi lo set ∙ m

-- a member that is above the variable is one of the low side
pub joined-low : (x : ℕ) (hi lo : List ℕ → Bool) (set : List ℕ) → all_above x set ≡ true → joined x hi lo set ≡ true → lo set ≡ true
joined-low x hi lo [] above m = m
joined-low x hi lo (y ∷ ys) above m =
    let lt : x < y = above-head x y ys above in
    sym (joined-other x hi lo y ys (λ e. omega (arith, lt, e))) ∙ m

-- the sets of sides above a variable are above a smaller one
pub joined-above : (w v : ℕ) → w < v → (g1 g0 : List ℕ → Bool) → AreAbove v g1 → AreAbove v g0 → AreAbove w (joined v g1 g0)
joined-above w v lt g1 g0 high low [] m = refl
joined-above w v lt g1 g0 high low (y ∷ ys) m = elim (eqb_tells y v) [
  | inl q ↦ and_from (nat_lt w y) (all_above w ys) (lt-ltb w y (omega (arith, lt, q.1))) (all_above-lower w v ys (omega (arith, lt)) (high ys (rw q.0 at m)))
  | inr q ↦ all_above-lower w v (y ∷ ys) (omega (arith, lt)) (low (y ∷ ys) (rw q.0 at m))
]
