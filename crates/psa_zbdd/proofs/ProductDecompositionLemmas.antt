-- The product of two families by their sides (Minato; the limit counts literals of occurring events).
use Rattle.std.proofs.Common.{◌≡◌, ◌↔◌, ◌⊎◌, ℕ, ◌+◌, ◌<◌, ◌≤◌, ◌==◌, ◌||◌, Bool, true, false, List, [], ◌∷◌, length, filter, nat_lt, refl, sym, ap, ap₂, subst, subst₂, ◌∙◌, inl, inr, arith}
use Rattle.std.proofs.lemmas.Bool.{false≢true, and_parts, and_from, or_cases, lt-ltb}
use Rattle.std.proofs.lemmas.Bool.Decides.{eqb_tells}
use Rattle.psa_logic.specs.Sets.{all_above, is_ascending, occurs}
use Rattle.psa_logic.specs.Products.{is_positive, is_consistent}
use Rattle.psa_logic.proofs.PartLemmas.{eqb-same, all_above-lower}
use Rattle.psa_nodes.specs.Readings.{joined}
use Rattle.psa_nodes.specs.Families.{IsUnionOf, IsProductMember}
use Rattle.psa_nodes.specs.Tails.{either}
use Rattle.psa_zbdd.specs.FamilyProducts.{AreClear, weight}
use Rattle.psa_nodes.proofs.CallerLemmas.{AreAbove, above-head}
use Rattle.psa_families.proofs.JoinedLemmas.{with_or_not, Member, member-of, low-joined, high-joined}
use Rattle.psa_zbdd.proofs.SetUnionLemmas.{or-left, or-right, above-occurs, union-above, above-left, above-right, union-with, union-without, union-head, consistent-with, consistent-parts, count-with}

none-of : (a b : Bool) → (a || b) ≡ false → (a ≡ false) × (b ≡ false)
none-of true b h = absurd (false≢true (sym h))
none-of false b h = (refl, h)

module _ (x : ℕ) (f1 f0 g1 g0 : List ℕ → Bool) (af1 : AreAbove x f1) (af0 : AreAbove x f0) (ag1 : AreAbove x g1) (ag0 : AreAbove x g0) where
  abbrev first : List ℕ → Bool
  first = joined x f1 f0

  abbrev second : List ℕ → Bool
  second = joined x g1 g0

  -- without x
  pub low-product : (limit : ℕ) (set : List ℕ) → IsProductMember f0 g0 limit set → IsProductMember first second limit set
  low-product limit set p = record {
    left = p.left;
    right = p.right;
    of_first = low-joined x f1 f0 af0 p.left p.of_first;
    of_second = low-joined x g1 g0 ag0 p.right p.of_second;
    union = p.union;
    consistent = p.consistent;
    within = p.within;
  }

  -- the parts of a union without x are without x
  without-x : (hi lo : List ℕ → Bool) (set whole : List ℕ) → all_above x whole ≡ true → (all_above x whole ≡ true → all_above x set ≡ true) → Member x hi lo set → lo set ≡ true
  without-x hi lo set whole aw goes m = by m.flag refl
    where
      by : (b : Bool) → m.flag ≡ b → lo set ≡ true
      by true e =
          let headed : set ≡ x ∷ m.rest = m.is ∙ ap (λ b. with_or_not x b m.rest) e in
          let lt : x < x = above-head x x m.rest (subst (λ (l : List ℕ). all_above x l ≡ true) headed (goes aw)) in
          absurd (omega (arith, lt))
      by false e =
          let same : set ≡ m.rest = m.is ∙ ap (λ b. with_or_not x b m.rest) e in
          subst (λ (l : List ℕ). lo l ≡ true) (sym same) (m.low e)

  pub product-low : (limit : ℕ) (set : List ℕ) → all_above x set ≡ true → IsProductMember first second limit set → IsProductMember f0 g0 limit set
  product-low limit set above p = record {
    left = p.left;
    right = p.right;
    of_first = without-x f1 f0 p.left set above (above-left x p.left p.right set p.union) (member-of x f1 f0 af1 af0 p.left p.of_first);
    of_second = without-x g1 g0 p.right set above (above-right x p.left p.right set p.union) (member-of x g1 g0 ag1 ag0 p.right p.of_second);
    union = p.union;
    consistent = p.consistent;
    within = p.within;
  }

  -- a member has no number less than x
  least-of : (hi lo : List ℕ → Bool) (set : List ℕ) → Member x hi lo set → (z : ℕ) → occurs set z ≡ true → x ≤ z
  least-of hi lo set m z o = by m.flag refl
    where
      by : (b : Bool) → m.flag ≡ b → x ≤ z
      by true e =
          let headed : set ≡ x ∷ m.rest = m.is ∙ ap (λ b. with_or_not x b m.rest) e in
          elim (or_cases (x == z) (occurs m.rest z) (ap (λ (l : List ℕ). occurs l z) (sym headed) ∙ o)) [
            | inl p ↦ elim (eqb_tells x z) [ inl q ↦ omega (arith, q.1) | inr q ↦ absurd (false≢true (sym q.0 ∙ p)) ]
            | inr p ↦ let lt : x < z = above-occurs x m.rest z m.above p in omega (arith, lt)
          ]
      by false e =
          let same : set ≡ m.rest = m.is ∙ ap (λ b. with_or_not x b m.rest) e in
          let lt : x < z = above-occurs x m.rest z m.above (ap (λ (l : List ℕ). occurs l z) (sym same) ∙ o) in
          omega (arith, lt)

  -- a set of the product that does not begin with x is above it
  pub product-past : (limit y : ℕ) (ys : List ℕ) → (y ≡ x → ⊥) → IsProductMember first second limit (y ∷ ys) → all_above x (y ∷ ys) ≡ true
  product-past limit y ys ne p =
      let own : occurs (y ∷ ys) y ≡ true = rw (eqb-same y) refl in
      let le : x ≤ y = elim (or_cases (occurs p.left y) (occurs p.right y) (sym (p.union.members y) ∙ own)) [
        | inl o ↦ least-of f1 f0 p.left (member-of x f1 f0 af1 af0 p.left p.of_first) y o
        | inr o ↦ least-of g1 g0 p.right (member-of x g1 g0 ag1 ag0 p.right p.of_second) y o
      ] in
      let parts = and_parts (all_above y ys) (is_ascending ys) p.union.ascending in
      let lt : x < y = strict y le ne in
      and_from (nat_lt x y) (all_above x ys) (lt-ltb x y lt) (all_above-lower x y ys le parts.0)
    where
      strict : (y : ℕ) → x ≤ y → (y ≡ x → ⊥) → x < y
      strict y le ne = omega arith

  module _ (limit rest : ℕ) (counted : limit ≡ rest + weight x) where
    with-x : (a b : Bool) (l r s : List ℕ) → (a || b) ≡ true → first (with_or_not x a l) ≡ true → second (with_or_not x b r) ≡ true → all_above x l ≡ true → all_above x r ≡ true
        → (is_positive x ≡ true → occurs l (x + 1) ≡ false) → (is_positive x ≡ true → occurs r (x + 1) ≡ false)
        → IsUnionOf l r s → is_consistent s ≡ true → length (filter is_positive s) ≤ rest → IsProductMember first second limit (x ∷ s)
    with-x a b l r s some ml mr al ar cl cr u cs within =
        let above : all_above x s ≡ true = union-above x l r s u al ar in
        record {
          left = with_or_not x a l;
          right = with_or_not x b r;
          of_first = ml;
          of_second = mr;
          union = union-with x a b l r s some above u;
          consistent = consistent-with x s above (λ even. u.members (x + 1) ∙ ap₂ (λ v w. v || w) (cl even) (cr even)) cs;
          within = let e = count-with x s in omega (arith, e, counted, within);
        }

    module _ (c1 c0 d1 d0 : List ℕ → Bool) (cf1 : AreClear x f1 c1) (cf0 : AreClear x f0 c0) (cg1 : AreClear x g1 d1) (cg0 : AreClear x g0 d0) where
      -- with x: the unions of a left member with x and any right one, and of a left one without it and a
      -- right one with it
      abbrev pub HighMember : List ℕ → Type 0
      HighMember set = IsProductMember c1 (either d1 d0) rest set ⊎ IsProductMember c0 d1 rest set

      pub high-product : (set : List ℕ) → HighMember set → IsProductMember first second limit (x ∷ set)
      high-product set h = elim h [
        | inl p ↦
            let l = (cf1 p.left).0 p.of_first in
            elim (or_cases (d1 p.right) (d0 p.right) p.of_second) [
              | inl m ↦
                  let r = (cg1 p.right).0 m in
                  with-x true true p.left p.right set refl (high-joined x f1 f0 p.left l.0) (high-joined x g1 g0 p.right r.0) (af1 p.left l.0) (ag1 p.right r.0) l.1 r.1 p.union p.consistent p.within
              | inr m ↦
                  let r = (cg0 p.right).0 m in
                  with-x true false p.left p.right set refl (high-joined x f1 f0 p.left l.0) (low-joined x g1 g0 ag0 p.right r.0) (af1 p.left l.0) (ag0 p.right r.0) l.1 r.1 p.union p.consistent p.within
            ]
        | inr p ↦
            let l = (cf0 p.left).0 p.of_first in
            let r = (cg1 p.right).0 p.of_second in
            with-x false true p.left p.right set refl (low-joined x f1 f0 af0 p.left l.0) (high-joined x g1 g0 p.right r.0) (af0 p.left l.0) (ag1 p.right r.0) l.1 r.1 p.union p.consistent p.within
      ]

      pub product-high : (set : List ℕ) → IsProductMember first second limit (x ∷ set) → HighMember set
      product-high set p = by l.flag r.flag refl refl
        where
          l : Member x f1 f0 p.left
          l = member-of x f1 f0 af1 af0 p.left p.of_first

          r : Member x g1 g0 p.right
          r = member-of x g1 g0 ag1 ag0 p.right p.of_second

          split_union : IsUnionOf (with_or_not x l.flag l.rest) (with_or_not x r.flag r.rest) (x ∷ set)
          split_union = subst₂ (λ (m n : List ℕ). IsUnionOf m n (x ∷ set)) l.is r.is p.union

          inner : IsUnionOf l.rest r.rest set
          inner = union-without x l.flag r.flag l.rest r.rest set l.above r.above split_union

          some : (l.flag || r.flag) ≡ true
          some = union-head x l.flag r.flag l.rest r.rest set l.above r.above split_union

          parts : (is_positive x ≡ true → occurs set (x + 1) ≡ false) × (is_consistent set ≡ true)
          parts = consistent-parts x set p.consistent

          clear_both : is_positive x ≡ true → (occurs l.rest (x + 1) ≡ false) × (occurs r.rest (x + 1) ≡ false)
          clear_both even = none-of (occurs l.rest (x + 1)) (occurs r.rest (x + 1)) (sym (inner.members (x + 1)) ∙ parts.0 even)

          few : length (filter is_positive set) ≤ rest
          few = let e = count-with x set in let w = p.within in omega (arith, e, counted, w)

          made : (f g : List ℕ → Bool) → f l.rest ≡ true → g r.rest ≡ true → IsProductMember f g rest set
          made f g mf mg = record { left = l.rest; right = r.rest; of_first = mf; of_second = mg; union = inner; consistent = parts.1; within = few }

          by : (a b : Bool) → l.flag ≡ a → r.flag ≡ b → HighMember set
          by true true ea eb =
              inl (made c1 (either d1 d0) ((cf1 l.rest).1 (l.high ea, λ even. (clear_both even).0))
              (or-left (d1 r.rest) (d0 r.rest) ((cg1 r.rest).1 (r.high eb, λ even. (clear_both even).1))))
          by true false ea eb =
              inl (made c1 (either d1 d0) ((cf1 l.rest).1 (l.high ea, λ even. (clear_both even).0))
              (or-right (d1 r.rest) (d0 r.rest) ((cg0 r.rest).1 (r.low eb, λ even. (clear_both even).1))))
          by false true ea eb =
              inr (made c0 d1 ((cf0 l.rest).1 (l.low ea, λ even. (clear_both even).0)) ((cg1 r.rest).1 (r.high eb, λ even. (clear_both even).1)))
          by false false ea eb = absurd (false≢true (sym (ap₂ (λ v w. v || w) ea eb) ∙ some))

  -- with a literal that may not be taken there is nothing
  pub no-high : (set : List ℕ) → is_positive x ≡ true → IsProductMember first second 0 (x ∷ set) → ⊥
  no-high set even p =
      let e : length (filter is_positive (x ∷ set)) ≡ length (filter is_positive set) + weight x = count-with x set in
      let one : weight x ≡ 1 = rw even refl in
      let w = p.within in
      omega (arith, e, one, w)

  pub product-sides : (limit : ℕ) (h1 h0 : List ℕ → Bool) → ((set : List ℕ) → (h1 set ≡ true) ↔ IsProductMember first second limit (x ∷ set)) → ((set : List ℕ) → (h0 set ≡ true) ↔ IsProductMember f0 g0 limit set) → (set : List ℕ) → (joined x h1 h0 set ≡ true) ↔ IsProductMember first second limit set
  product-sides limit h1 h0 high low [] = (λ m. low-product limit [] ((low []).0 m), λ p. (low []).1 (product-low limit [] refl p))
  product-sides limit h1 h0 high low (y ∷ ys) = elim (eqb_tells y x) [
    | inl q ↦ rw q.0 (subst (λ (v : ℕ). (h1 ys ≡ true) ↔ IsProductMember first second limit (v ∷ ys)) (sym q.1) (high ys))
    | inr q ↦ rw q.0 (λ m. low-product limit (y ∷ ys) ((low (y ∷ ys)).0 m), λ p. (low (y ∷ ys)).1 (product-low limit (y ∷ ys) (product-past limit y ys q.1 p) p))
  ]
