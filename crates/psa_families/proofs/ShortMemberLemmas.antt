-- The members of few literals of a family of products of events that occur: its product with the family of the
-- empty set.
use Rattle.std.proofs.Common.{◌≡◌, ◌↔◌, ℕ, ◌+◌, ◌-◌, ◌*◌, ◌<◌, ◌≤◌, ◌==◌, ◌||◌, Bool, true, false, nat_le, List, [], ◌∷◌, length, filter, refl, sym, ap, subst, ◌∙◌, inl, inr, arith}
use Rattle.std.proofs.lemmas.Bool.{false≢true, and_parts, and_from}
use Rattle.std.proofs.lemmas.Bool.Decides.{eqb_tells}
use Rattle.std.proofs.lemmas.List.{length-map}
use Rattle.psa_logic.specs.Sets.{all_above, is_ascending, occurs}
use Rattle.psa_logic.specs.Products.{positive_product, is_positive, holds_at, IsCutProduct}
use Rattle.psa_logic.proofs.PartLemmas.{all_above-lower, sets-same}
use Rattle.psa_logic.proofs.LiteralLemmas.{positive-literal, holds-consistent}
use Rattle.psa_nodes.specs.declared.node.Kind.TheVariants.{Zbdd}
use Rattle.psa_nodes.specs.declared.node.Node.{Node}
use Rattle.psa_nodes.specs.declared.node.Operation.TheVariants.{Product, MinimalOfBdd}
use Rattle.psa_nodes.specs.Readings.{next_id, truth, has, joined, stands, same_kind}
use Rattle.psa_nodes.specs.Nodes.{AllFit}
use Rattle.psa_nodes.specs.Families.{IsProductMember}
use Rattle.psa_nodes.specs.Progress.{IsResult}
use Rattle.psa_nodes.proofs.CallerLemmas.{same_kind-exact, stands-terminal, stands-weaker}
use Rattle.psa_families.specs.Operands.{ArePositive}
use Rattle.psa_nodes.proofs.CallerLemmas.{above-stands, stands-above}
use Rattle.psa_nodes.proofs.CallerLemmas.{is_result}
use Rattle.psa_families.proofs.PositiveProductLemmas.{cuts-within}
use Rattle.psa_families.proofs.TerminalLemmas.{has-terminal}

-- the members of a family are sets
member-ascending : (ns : List Node) → AllFit ns → (id : ℕ) → stands Zbdd 0 ns id ≡ true → (set : List ℕ) → has ns id set ≡ true → is_ascending set ≡ true
member-ascending ns fit id st [] m = refl
member-ascending [] fit id st (y ∷ ys) m = absurd (false≢true ((and_parts (id == 1) false m).1))
member-ascending (n ∷ older) fit id st (y ∷ ys) m =
    elim (eqb_tells id (next_id older)) [
      | inl p ↦
          let kind = same_kind-exact n.kind Zbdd (and_parts (same_kind n.kind Zbdd) (nat_le 0 n.var) (rw p.0 at st)).0 in
          let hi : stands Zbdd (n.var + 1) older n.hi.0 ≡ true = rw kind at fit.0.hi in
          let lo : stands Zbdd (n.var + 1) older n.lo.0 ≡ true = rw kind at fit.0.lo in
          let inside : joined n.var (has older n.hi.0) (has older n.lo.0) (y ∷ ys) ≡ true = rw p.0 at m in
          elim (eqb_tells y n.var) [
            | inl q ↦ and_from (all_above y ys) (is_ascending ys)
                (all_above-lower y n.var ys (omega (arith, q.1)) (above-stands older fit.1 n.var n.hi.0 hi ys (rw q.0 at inside)))
                (member-ascending older fit.1 n.hi.0 (stands-weaker Zbdd (n.var + 1) 0 older n.hi.0 (omega arith) hi) ys (rw q.0 at inside))
            | inr q ↦ member-ascending older fit.1 n.lo.0 (stands-weaker Zbdd (n.var + 1) 0 older n.lo.0 (omega arith) lo) (y ∷ ys) (rw q.0 at inside)
          ]
      | inr p ↦ member-ascending older fit.1 id (rw p.0 at st) (y ∷ ys) (rw p.0 at m)
    ]

only-empty : (ns : List Node) (set : List ℕ) → has ns 1 set ≡ true → set ≡ []
only-empty ns [] m = refl
only-empty ns (y ∷ ys) m = absurd (false≢true (sym (has-terminal ns 1 (y ∷ ys) (omega arith)) ∙ m))

or-false : (b : Bool) → (b || false) ≡ b
or-false true = refl
or-false false = refl

-- a product of events that occur is consistent, and each of its literals counts
positive-filter : (ranks : List ℕ) → filter is_positive (positive_product ranks) ≡ positive_product ranks
positive-filter [] = refl
positive-filter (rank ∷ ranks) = rw (positive-literal rank true) (ap (λ (l : List ℕ). 2 * rank ∷ l) (positive-filter ranks))

positive-holds : (ranks : List ℕ) → holds_at (λ rank. true) (positive_product ranks) ≡ true
positive-holds [] = refl
positive-holds (rank ∷ ranks) = rw (positive-literal rank true) (positive-holds ranks)

-- the rest of a product of events that occur is one
pub tail-positive : (x : ℕ) (set ranks : List ℕ) → x ∷ set ≡ positive_product ranks → (rest : List ℕ) × (set ≡ positive_product rest)
tail-positive x set [] e = absurd (empty e)
  where
    empty : x ∷ set ≡ [] → ⊥
    empty e = cc
tail-positive x set (rank ∷ ranks) e = (ranks, rests e)
  where
    rests : x ∷ set ≡ 2 * rank ∷ positive_product ranks → set ≡ positive_product ranks
    rests e = cc

-- the members of at most `limit` literals
abbrev pub AreShort : (List ℕ → Bool) → ℕ → (List ℕ → Bool) → Type 0
AreShort family limit short = (set : List ℕ) → (short set ≡ true) ↔ ((family set ≡ true) × (length set ≤ limit))

module _ (ns : List Node) (fit : AllFit ns) (family limit : ℕ) (st : stands Zbdd 0 ns family ≡ true) (positive : ArePositive (has ns family)) where
  all_count : (set : List ℕ) → has ns family set ≡ true → filter is_positive set ≡ set
  all_count set m = let p = positive set m in subst (λ (l : List ℕ). filter is_positive l ≡ l) (sym p.1) (positive-filter p.0)

  short-of : (set : List ℕ) → IsProductMember (has ns family) (has ns 1) limit set → (has ns family set ≡ true) × (length set ≤ limit)
  short-of set p =
      let none : p.right ≡ [] = only-empty ns p.right p.of_second in
      let same : set ≡ p.left =
      sets-same set p.left p.union.ascending (member-ascending ns fit family st p.left p.of_first)
      (λ x. p.union.members x ∙ ap (λ (r : List ℕ). occurs p.left x || occurs r x) none ∙ or-false (occurs p.left x)) in
      let member : has ns family set ≡ true = subst (λ (l : List ℕ). has ns family l ≡ true) (sym same) p.of_first in
      (member, subst (λ (l : List ℕ). length l ≤ limit) (all_count set member) p.within)

  of-short : (set : List ℕ) → has ns family set ≡ true → length set ≤ limit → IsProductMember (has ns family) (has ns 1) limit set
  of-short set member le =
      let ascending = member-ascending ns fit family st set member in
      let p = positive set member in record {
        left = set;
        right = [];
        of_first = member;
        of_second = has-terminal ns 1 [] (omega arith);
        union = record { ascending = ascending; members = λ x. sym (or-false (occurs set x)) };
        consistent = holds-consistent (λ rank. true) set ascending (subst (λ (l : List ℕ). holds_at (λ rank. true) l ≡ true) (sym p.1) (positive-holds p.0));
        within = subst (λ (l : List ℕ). length l ≤ limit) (sym (all_count set member)) le;
      }

  -- are the product with the family of the empty set
  pub product-short : (short : List ℕ → Bool) → ((set : List ℕ) → (short set ≡ true) ↔ IsProductMember (has ns family) (has ns 1) limit set) → AreShort (has ns family) limit short
  product-short short is set = (λ m. short-of set ((is set).0 m), λ p. (is set).1 (of-short set p.0 p.1))

  -- the members of few literals are the product with the empty set
  pub short-product : (short : List ℕ → Bool) → AreShort (has ns family) limit short → (set : List ℕ) → (short set ≡ true) ↔ IsProductMember (has ns family) (has ns 1) limit set
  short-product short is set = (λ m. let p = (is set).0 m in of-short set p.0 p.1, λ p. (is set).1 (short-of set p))

  -- the terminals have no set but the empty one
  pub terminal-short : family < 2 → IsResult Product limit ns family 1 family
  terminal-short lt = is_result Product limit ns family 1 family fit (stands-terminal Zbdd 0 ns family lt) (short-product (has ns family) (λ set. (λ m. (m, short set m), λ p. p.0)))
    where
      short : (set : List ℕ) → has ns family set ≡ true → length set ≤ limit
      short [] m = omega arith
      short (y ∷ ys) m = absurd (false≢true ((and_parts (family == 1) false (sym (has-terminal ns family (y ∷ ys) lt) ∙ m)).1))

-- With x: those of the high side with one literal less; without it: those of the low side.
module _ (x limit : ℕ) (f1 f0 h1 h0 : List ℕ → Bool) (high : (set : List ℕ) → (h1 set ≡ true) ↔ ((1 ≤ limit) × (f1 set ≡ true) × (length set ≤ limit - 1))) (low : AreShort f0 limit h0) where
  high-case : (y : ℕ) (ys : List ℕ) → (h1 ys ≡ true) ↔ ((f1 ys ≡ true) × (length (y ∷ ys) ≤ limit))
  high-case y ys = (
    λ m. let p = (high ys).0 m in let one = p.0 in let le = p.2 in (p.1, omega (arith, one, le)),
    λ p. let le = p.1 in (high ys).1 (omega (arith, le), p.0, omega (arith, le)),
  )

  -- they are found side by side
  pub short-sides : AreShort (joined x f1 f0) limit (joined x h1 h0)
  short-sides [] = low []
  short-sides (y ∷ ys) = elim (eqb_tells y x) [
    | inl q ↦ rw q.0 (high-case y ys)
    | inr q ↦ rw q.0 (low (y ∷ ys))
  ]

-- they stand where the family does
pub past-short : (ns : List Node) → AllFit ns → (x family limit id : ℕ) → stands Zbdd (x + 1) ns family ≡ true → stands Zbdd 0 ns id ≡ true → AreShort (has ns family) limit (has ns id) → stands Zbdd (x + 1) ns id ≡ true
past-short ns fit x family limit id st own short = stands-above ns fit x id own (λ set m. above-stands ns fit x family st set ((short set).0 m).0)

-- minimal cut sets are products of events that occur
pub cuts-positive : (ns : List Node) (root bound family : ℕ) → IsResult MinimalOfBdd bound ns root 0 family → ArePositive (has ns family)
cuts-positive ns root bound family r set m = let c = (r.computes set).0 m in (c.set, c.is_set)

-- those within a limit are the short ones of those within a greater one
pub short-cuts : (ns : List Node) → AllFit ns → (root limit bound family id : ℕ) → limit ≤ bound → IsResult MinimalOfBdd bound ns root 0 family → IsResult Product limit ns family 1 id → IsResult MinimalOfBdd limit ns root 0 id
short-cuts ns fit root limit bound family id le r s = record { stands_at = s.stands_at; computes = λ set. (to set, from set); only = s.only }
  where
    short : AreShort (has ns family) limit (has ns id)
    short = product-short ns fit family limit r.stands_at (cuts-positive ns root bound family r) (has ns id) s.computes

    lengths : (set : List ℕ) (k : ℕ) (c : IsCutProduct (truth ns root) k set) → length set ≡ length c.set
    lengths set k c = ap (λ (p : List ℕ). length p) c.is_set ∙ length-map c.set (λ rank. 2 * rank)

    to : (set : List ℕ) → has ns id set ≡ true → IsCutProduct (truth ns root) limit set
    to set m =
        let p = (short set).0 m in
        let c = (r.computes set).0 p.0 in
        record { set = c.set; is_set = c.is_set; minimal = c.minimal; within = let e = lengths set bound c in let k = p.1 in omega (arith, e, k) }

    from : (set : List ℕ) → IsCutProduct (truth ns root) limit set → has ns id set ≡ true
    from set c = (short set).1 ((r.computes set).1 (cuts-within (truth ns root) limit bound set le c), let e = lengths set limit c in let w = c.within in omega (arith, e, w))
