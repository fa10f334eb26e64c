-- The members of a family are above the numbers below its variable.
use Rattle.std.proofs.Common.{◌≡◌, ℕ, ◌+◌, ◌<◌, ◌≤◌, Bool, true, false, ◌==◌, nat_le, nat_lt, List, [], ◌∷◌, refl, sym, ap, subst, ◌∙◌, inl, inr, arith, leb-true}
use Rattle.std.proofs.lemmas.Bool.{false≢true, and_parts, and_from, lt-ltb, ltb-true, false_from_ne_true}
use Rattle.std.proofs.lemmas.Bool.Decides.{eqb_tells}
use Rattle.psa_logic.specs.Sets.{all_above}
use Rattle.psa_logic.proofs.PartLemmas.{all_above-lower}
use Rattle.psa_nodes.specs.declared.node.Kind.TheVariants.{Zbdd}
use Rattle.psa_nodes.specs.declared.node.Node.{Node}
use Rattle.psa_nodes.specs.Readings.{Reading, next_id, has, joined, stands, same_kind}
use Rattle.psa_nodes.specs.Nodes.{AllFit, IsReduced}
use Rattle.psa_nodes.proofs.StandsLemmas.{same_kind-exact, stands-split, stands-terminal, stands-weaker}
use Rattle.psa_nodes.proofs.NodeAtLemmas.{at}
use Rattle.psa_nodes.proofs.FamilyLemmas.{joined-own, has-zero}
use Rattle.psa_nodes.proofs.CanonicalLemmas.{canonical}

-- each set of the family is above x
abbrev pub AreAbove : ℕ → (List ℕ → Bool) → Type 0
AreAbove x family = (set : List ℕ) → family set ≡ true → all_above x set ≡ true

-- the sets of a family that stands past x are above x
pub above-stands : (ns : List Node) → AllFit ns → (x id : ℕ) → stands Zbdd (x + 1) ns id ≡ true → AreAbove x (has ns id)
above-stands ns fit x id h [] m = refl
above-stands [] fit x id h (y ∷ ys) m = absurd (false≢true ((and_parts (id == 1) false m).1))
above-stands (n ∷ older) fit x id h (y ∷ ys) m =
    elim (eqb_tells id (next_id older)) [
      | inl p ↦
          let parts = and_parts (same_kind n.kind Zbdd) (nat_le (x + 1) n.var) (rw p.0 at h) in
          let kind = same_kind-exact n.kind Zbdd parts.0 in
          let from : x + 1 ≤ n.var = leb-true (x + 1) n.var parts.1 in
          let inside : joined n.var (has older n.hi.0) (has older n.lo.0) (y ∷ ys) ≡ true = rw p.0 at m in
          elim (eqb_tells y n.var) [
            | inl q ↦ and_from (nat_lt x y) (all_above x ys) (lt-ltb x y (omega (arith, from, q.1)))
                (all_above-lower x n.var ys (omega (arith, from)) (above-stands older fit.1 n.var n.hi.0 (rw kind at fit.0.hi) ys (rw q.0 at inside)))
            | inr q ↦ all_above-lower x n.var (y ∷ ys) (omega (arith, from)) (above-stands older fit.1 n.var n.lo.0 (rw kind at fit.0.lo) (y ∷ ys) (rw q.0 at inside))
          ]
      | inr p ↦ above-stands older fit.1 x id (rw p.0 at h) (y ∷ ys) (rw p.0 at m)
    ]

-- no set above x begins with x
pub above-head : (x y : ℕ) (ys : List ℕ) → all_above x (y ∷ ys) ≡ true → x < y
above-head x y ys h = ltb-true x y (and_parts (nat_lt x y) (all_above x ys) h).0

-- a family above x stands past x: else its side with a smaller variable is empty
pub stands-above : (ns : List Node) → AllFit ns → (x id : ℕ) → stands Zbdd 0 ns id ≡ true → AreAbove x (has ns id) → stands Zbdd (x + 1) ns id ≡ true
stands-above ns fit x id st above =
    elim (stands-split Zbdd (x + 1) ns id st) [
      | inl past ↦ past
      | inr m ↦
          let n = m.0 in
          let a = at ns fit id n m.1 in
          let none : (set : List ℕ) → has ns n.hi.0 set ≡ false = λ set. false_from_ne_true (has ns n.hi.0 set) (λ e.
          let whole : has ns id (n.var ∷ set) ≡ true = ap (λ (r : Reading). r.as_family (n.var ∷ set)) a.reads ∙ joined-own n.var (has ns n.hi.0) (has ns n.lo.0) set ∙ e in
          let lt : x < n.var = above-head x n.var set (above (n.var ∷ set) whole) in
          omega (arith, lt, m.3)) in
          let zero : n.hi.0 ≡ 0 = canonical Zbdd ns fit n.hi.0 0 (stands-weaker Zbdd (n.var + 1) 0 ns n.hi.0 (omega arith) (rw m.2 at a.hi)) (stands-terminal Zbdd 0 ns 0 (omega arith))
          (λ set. none set ∙ sym (has-zero ns set)) in
          absurd ((subst (λ k. IsReduced k n.hi.0 n.lo.0) m.2 a.reduced) zero)
    ]
