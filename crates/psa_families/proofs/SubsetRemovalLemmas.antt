-- The members of a family that include no member of another, by the sides of both.
use Rattle.std.proofs.Common.{◌≡◌, ◌↔◌, ℕ, ◌+◌, ◌<◌, Bool, true, List, [], ◌∷◌, sym, ap, subst, ◌∙◌, inl, inr, arith}
use Rattle.std.proofs.lemmas.Bool.{false≢true}
use Rattle.std.proofs.lemmas.Bool.Decides.{eqb_tells}
use Rattle.psa_logic.specs.Sets.{all_above}
use Rattle.psa_logic.proofs.PartLemmas.{part-self, part-nil, part-skip, part-cons, part-all_above}
use Rattle.psa_nodes.specs.declared.node.Kind.TheVariants.{Zbdd}
use Rattle.psa_nodes.specs.declared.node.Node.{Node}
use Rattle.psa_nodes.specs.declared.node.Operation.TheVariants.{Without}
use Rattle.psa_nodes.specs.Readings.{has, joined, stands}
use Rattle.psa_nodes.specs.Nodes.{AllFit}
use Rattle.psa_nodes.specs.Families.{Spares}
use Rattle.psa_nodes.specs.Progress.{IsResult}
use Rattle.psa_nodes.proofs.CallerLemmas.{joined-own, joined-other, has-zero, has-one, stands-terminal}
use Rattle.psa_nodes.proofs.CallerLemmas.{AreAbove, above-head, above-stands, stands-above}
use Rattle.psa_nodes.proofs.CallerLemmas.{is_result}
use Rattle.psa_families.proofs.JoinedLemmas.{low-joined}

-- the sets of the left family that include none of the right one
abbrev pub IsSubsetRemoval : (List ℕ → Bool) → (List ℕ → Bool) → (List ℕ → Bool) → Type 0
IsSubsetRemoval left right family = (set : List ℕ) → (family set ≡ true) ↔ ((left set ≡ true) × Spares right set)

module _ (x : ℕ) (g1 g0 : List ℕ → Bool) (above : AreAbove x g0) where
  -- which sets the family spares: above x those that its low side spares
  spares-low : (set : List ℕ) → all_above x set ≡ true → Spares g0 set → Spares (joined x g1 g0) set
  spares-low set over s [] m p = s [] m p
  spares-low set over s (z ∷ zs) m p =
      let lt : x < z = above-head x z zs (part-all_above x (z ∷ zs) set p over) in
      s (z ∷ zs) (sym (joined-other x g1 g0 z zs (λ e. omega (arith, lt, e))) ∙ m) p

  low-spares : (set : List ℕ) → Spares (joined x g1 g0) set → Spares g0 set
  low-spares set s part m p = s part (low-joined x g1 g0 above part m) p

  -- and with x those whose rest both sides spare
  spares-high : (set : List ℕ) → Spares g1 set → Spares g0 set → Spares (joined x g1 g0) (x ∷ set)
  spares-high set s1 s0 [] m p = s0 [] m (part-nil set)
  spares-high set s1 s0 (z ∷ zs) m p = elim (eqb_tells z x) [
    | inl q ↦ s1 zs (rw q.0 at m) (rw q.0 at p)
    | inr q ↦ s0 (z ∷ zs) (rw q.0 at m) (rw q.0 at p)
  ]

  high-spares : (set : List ℕ) → Spares (joined x g1 g0) (x ∷ set) → Spares g1 set
  high-spares set s part m p = s (x ∷ part) (joined-own x g1 g0 part ∙ m) (part-cons x part set p)

  high-spares-low : (set : List ℕ) → Spares (joined x g1 g0) (x ∷ set) → Spares g0 set
  high-spares-low set s part m p = s part (low-joined x g1 g0 above part m) (part-skip set x part p)

-- With x: the sets of the high side that include none of either right side; without it: those of the low
-- side that include none of the right low side.
module _ (x : ℕ) (f1 f0 g1 g0 b1 h1 h0 : List ℕ → Bool) (left_above : AreAbove x f0) (right_above : AreAbove x g0) (both : IsSubsetRemoval f1 g1 b1) (hi : IsSubsetRemoval b1 g0 h1) (lo : IsSubsetRemoval f0 g0 h0) where
  high-case : (set : List ℕ) → (h1 set ≡ true) ↔ ((f1 set ≡ true) × Spares (joined x g1 g0) (x ∷ set))
  high-case set = (
    λ e.
        let outer = (hi set).0 e in
        let inner = (both set).0 outer.0 in
        (inner.0, spares-high x g1 g0 right_above set inner.1 outer.1),
    λ p. (hi set).1 ((both set).1 (p.0, high-spares x g1 g0 right_above set p.1), high-spares-low x g1 g0 right_above set p.1),
  )

  low-case : (set : List ℕ) → (h0 set ≡ true) ↔ ((f0 set ≡ true) × Spares (joined x g1 g0) set)
  low-case set = (
    λ e. let inner = (lo set).0 e in (inner.0, spares-low x g1 g0 right_above set (left_above set inner.0) inner.1),
    λ p. (lo set).1 (p.0, low-spares x g1 g0 right_above set p.1),
  )

  -- so both sides together are what remains of the whole
  pub without-sides : IsSubsetRemoval (joined x f1 f0) (joined x g1 g0) (joined x h1 h0)
  without-sides [] = low-case []
  without-sides (y ∷ ys) = elim (eqb_tells y x) [
    | inl q ↦ rw q.0 (subst (λ (v : ℕ). (h1 ys ≡ true) ↔ ((f1 ys ≡ true) × Spares (joined x g1 g0) (v ∷ ys))) (sym q.1) (high-case ys))
    | inr q ↦ rw q.0 (low-case (y ∷ ys))
  ]

-- what remains of a family stands where it does
pub past-without : (ns : List Node) → AllFit ns → (x left right id : ℕ) → stands Zbdd (x + 1) ns left ≡ true → IsResult Without 0 ns left right id → stands Zbdd (x + 1) ns id ≡ true
past-without ns fit x left right id sl r =
    stands-above ns fit x id r.stands_at (λ set m. above-stands ns fit x left sl set ((r.computes set).0 m).0)

-- operands that decide alone
module _ (ns : List Node) (fit : AllFit ns) (left right : ℕ) where
  -- nothing is left
  pub none-left : ((set : List ℕ) → has ns left set ≡ true → Spares (has ns right) set → ⊥) → IsResult Without 0 ns left right 0
  none-left none =
      is_result Without 0 ns left right 0 fit (stands-terminal Zbdd 0 ns 0 (omega arith))
      (λ set. (λ e. absurd (false≢true (sym (has-zero ns set) ∙ e)), λ p. absurd (none set p.0 p.1)))

  -- a family removes all of itself
  pub without-own : left ≡ right → IsResult Without 0 ns left right 0
  without-own e = none-left (λ set m s. s set (ap (λ (x : ℕ). has ns x set) (sym e) ∙ m) (part-self set))

  -- nothing remains of the empty family
  pub without-nothing : left ≡ 0 → IsResult Without 0 ns left right 0
  without-nothing e = none-left (λ set m s. false≢true (sym (has-zero ns set) ∙ ap (λ (x : ℕ). has ns x set) (sym e) ∙ m))

  -- the empty set is a part of every set
  pub without-all : right ≡ 1 → IsResult Without 0 ns left right 0
  without-all e = none-left (λ set m s. s [] (ap (λ (x : ℕ). has ns x []) e ∙ has-one ns []) (part-nil set))

  -- the empty family removes nothing
  pub without-none : right ≡ 0 → stands Zbdd 0 ns left ≡ true → IsResult Without 0 ns left right left
  without-none e st =
      is_result Without 0 ns left right left fit st
      (λ set. (λ m. (m, λ part k p. false≢true (sym (has-zero ns part) ∙ ap (λ (x : ℕ). has ns x part) (sym e) ∙ k)), λ p. p.0))
