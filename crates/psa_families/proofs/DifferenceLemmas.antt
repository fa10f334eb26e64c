-- The difference of two families by their sides, where no set of either includes another of the right one.
use Rattle.std.proofs.Common.{◌≡◌, ◌↔◌, ℕ, Bool, true, List, [], ◌∷◌, sym, ap, subst, ◌∙◌, inl, inr, arith}
use Rattle.std.proofs.lemmas.Bool.{false≢true, false_from_ne_true}
use Rattle.std.proofs.lemmas.Bool.Decides.{eqb_tells}
use Rattle.psa_logic.proofs.PartLemmas.{part-self, part-nil, part-cons}
use Rattle.psa_nodes.specs.declared.node.Kind.TheVariants.{Zbdd}
use Rattle.psa_nodes.specs.declared.node.Node.{Node}
use Rattle.psa_nodes.specs.declared.node.Operation.TheVariants.{Without}
use Rattle.psa_nodes.specs.Readings.{has, joined, stands}
use Rattle.psa_nodes.specs.Nodes.{AllFit}
use Rattle.psa_nodes.specs.Families.{Spares}
use Rattle.psa_nodes.specs.Progress.{IsResult}
use Rattle.psa_nodes.proofs.CallerLemmas.{joined-own, stands-terminal, canonical, AreAbove, has-one}
use Rattle.psa_families.specs.Operands.{AreApart}
use Rattle.psa_nodes.proofs.CallerLemmas.{is_result}
use Rattle.psa_families.proofs.JoinedLemmas.{low-joined, joined-low}
use Rattle.psa_families.proofs.SubsetRemovalLemmas.{IsSubsetRemoval}

-- the sides of families that are apart are apart
module _ (x : ℕ) (f1 f0 g1 g0 : List ℕ → Bool) (apart : AreApart (joined x f1 f0) (joined x g1 g0)) where
  -- the high sides are apart
  pub apart-high : AreApart f1 g1
  apart-high set part m k h =
      tails (apart (x ∷ set) (x ∷ part) (joined-own x f1 f0 set ∙ m) (joined-own x g1 g0 part ∙ k) (part-cons x part set h))
    where
      tails : {ts xs : List ℕ} → x ∷ ts ≡ x ∷ xs → ts ≡ xs
      tails e = cc

  module _ (left_above : AreAbove x f0) (right_above : AreAbove x g0) where
    -- and the low sides
    pub apart-low : AreApart f0 g0
    apart-low set part m k h = apart set part (low-joined x f1 f0 left_above set m) (low-joined x g1 g0 right_above part k) h

    -- With x: the sets of the high side that are none of the right one; without it: those of the low side.
    module _ (h1 h0 : List ℕ → Bool) (hi : IsSubsetRemoval f1 g1 h1) (lo : IsSubsetRemoval f0 g0 h0) where
      high-case : (set : List ℕ) → (h1 set ≡ true) ↔ ((f1 set ≡ true) × Spares (joined x g1 g0) (x ∷ set))
      high-case set = (
        λ e.
            let inner = (hi set).0 e in (
              inner.0,
              λ part k h.
                  let same : part ≡ x ∷ set = apart (x ∷ set) part (joined-own x f1 f0 set ∙ inner.0) k h in
                  let own : joined x g1 g0 (x ∷ set) ≡ true = subst (λ (p : List ℕ). joined x g1 g0 p ≡ true) same k in
                  inner.1 set (sym (joined-own x g1 g0 set) ∙ own) (part-self set),
            ),
        λ p. (hi set).1 (p.0, λ part k h. p.1 (x ∷ part) (joined-own x g1 g0 part ∙ k) (part-cons x part set h)),
      )

      low-case : (set : List ℕ) → (h0 set ≡ true) ↔ ((f0 set ≡ true) × Spares (joined x g1 g0) set)
      low-case set = (
        λ e.
            let inner = (lo set).0 e in (
              inner.0,
              λ part k h.
                  let same : part ≡ set = apart set part (low-joined x f1 f0 left_above set inner.0) k h in
                  let own : joined x g1 g0 set ≡ true = subst (λ (p : List ℕ). joined x g1 g0 p ≡ true) same k in
                  inner.1 set (joined-low x g1 g0 set (left_above set inner.0) own) (part-self set),
            ),
        λ p. (lo set).1 (p.0, λ part k h. p.1 part (low-joined x g1 g0 right_above part k) h),
      )

      -- the differences of the sides make the difference
      pub difference-sides : IsSubsetRemoval (joined x f1 f0) (joined x g1 g0) (joined x h1 h0)
      difference-sides [] = low-case []
      difference-sides (y ∷ ys) = elim (eqb_tells y x) [
        | inl q ↦ rw q.0 (subst (λ (v : ℕ). (h1 ys ≡ true) ↔ ((f1 ys ≡ true) × Spares (joined x g1 g0) (v ∷ ys))) (sym q.1) (high-case ys))
        | inr q ↦ rw q.0 (low-case (y ∷ ys))
      ]

-- families of which the left one is spared, or has the empty set alone
module _ (ns : List Node) (fit : AllFit ns) (left right : ℕ) where
  -- all is left
  all-left : stands Zbdd 0 ns left ≡ true → ((set : List ℕ) → has ns left set ≡ true → Spares (has ns right) set) → IsResult Without 0 ns left right left
  all-left st all = is_result Without 0 ns left right left fit st (λ set. (λ m. (m, all set m), λ p. p.0))

  -- a family with the empty set, and with no set that includes another, has no other set
  only-empty : AreApart (has ns right) (has ns right) → stands Zbdd 0 ns right ≡ true → has ns right [] ≡ true → right ≡ 1
  only-empty own st m = canonical Zbdd ns fit right 1 st (stands-terminal Zbdd 0 ns 1 (omega arith)) same
    where
      same : (set : List ℕ) → has ns right set ≡ has ns 1 set
      same [] = m ∙ sym (has-one ns [])
      same (y ∷ ys) =
          false_from_ne_true (has ns right (y ∷ ys)) (λ k. let e : [] ≡ y ∷ ys = own (y ∷ ys) [] k m (part-nil (y ∷ ys)) in cc)
          ∙ sym (has-one ns (y ∷ ys))

  -- the empty set alone without a family that does not have it
  pub without-some : left ≡ 1 → (right ≡ 1 → ⊥) → stands Zbdd 0 ns left ≡ true → stands Zbdd 0 ns right ≡ true → AreApart (has ns right) (has ns right) → IsResult Without 0 ns left right left
  without-some e ne sl sr own = all-left sl spared
    where
      spared : (set : List ℕ) → has ns left set ≡ true → Spares (has ns right) set
      spared [] m [] k h = ne (only-empty own sr k)
      spared [] m (p ∷ ps) k h = false≢true h
      spared (y ∷ ys) m part k h = false≢true (sym (has-one ns (y ∷ ys)) ∙ ap (λ (x : ℕ). has ns x (y ∷ ys)) (sym e) ∙ m)
