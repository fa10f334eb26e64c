-- The minimal cut sets of a truth from a family that covers it: the least of the positive parts of its members.
use Rattle.std.proofs.Common.{◌≡◌, ◌↔◌, ℕ, ◌*◌, ◌≤◌, Bool, true, List, [], ◌∷◌, length, refl, sym, ap, subst, ◌∙◌, inl, inr, arith}
use Rattle.psa_logic.specs.Sets.{is_ascending, is_part, occurs}
use Rattle.psa_logic.specs.Products.{positive_product, IsMinimalCutSet, IsCutProduct}
use Rattle.psa_logic.proofs.PartLemmas.{part-trans, part-le, part-length, part-ascending}
use Rattle.psa_logic.proofs.MinimalPartLemmas.{minimal-part}
use Rattle.psa_nodes.specs.Families.{IsPositivePart, IsMinimalMember}
use Rattle.psa_zbdd.specs.GraphFamilies.{IsSignedImplicant, IsCover}
use Rattle.psa_families.proofs.PositiveProductLemmas.{part-positive, positive-part}
use Rattle.psa_zbdd.proofs.SignedProductLemmas.{events, events-product, events-ascending, events-length, events-cut, held-part}

module _ (width limit : ℕ) (f : (ℕ → Bool) → Bool) (family positives : List ℕ → Bool) (c : IsCover width limit f family)
    (of_positives : (set : List ℕ) → (positives set ≡ true) ↔ IsPositivePart family set) where
  -- each positive part is the product of a cut set within the limit
  record Cutting (set : List ℕ) : Type 0 where
    ranks : List ℕ
    is : set ≡ positive_product ranks
    ascending : is_ascending ranks ≡ true
    cuts : f (occurs ranks) ≡ true
    within : length ranks ≤ limit

  cutting : (set : List ℕ) → positives set ≡ true → Cutting set
  cutting set m =
      let p = (of_positives set).0 m in
      let i : IsSignedImplicant width limit f p.whole = c.sound p.whole p.member in
      record {
        ranks = events p.whole;
        is = p.positive ∙ events-product p.whole;
        ascending = events-ascending p.whole i.0.ascending;
        cuts = events-cut width limit f p.whole i;
        within = let e = events-length p.whole in let w = i.0.within in omega (arith, e, w);
      }

  -- and each minimal cut set within it is there
  minimal-there : (set : List ℕ) → IsMinimalCutSet f set → length set ≤ limit → positives (positive_product set) ≡ true
  minimal-there set m le =
      let one = c.covers set m.ascending le m.minimal.cuts in
      let i : IsSignedImplicant width limit f one.0 = c.sound one.0 one.1 in
      let same : events one.0 ≡ set = m.minimal.least (events one.0) (held-part set one.0 m.ascending i.0.ascending one.2) (events-cut width limit f one.0 i) in
      (of_positives (positive_product set)).1 (record {
        whole = one.0;
        member = one.1;
        positive = ap (λ (l : List ℕ). positive_product l) (sym same) ∙ sym (events-product one.0);
      })

  same-product : (xs ys : List ℕ) → positive_product xs ≡ positive_product ys → xs ≡ ys
  same-product [] [] e = refl
  same-product [] (y ∷ ys) e = absurd (cc)
  same-product (x ∷ xs) [] e = absurd (cc)
  same-product (x ∷ xs) (y ∷ ys) e = ap (λ (z : ℕ). z ∷ xs) (half (head e)) ∙ ap (λ (l : List ℕ). y ∷ l) (same-product xs ys (rest e))
    where
      head : 2 * x ∷ positive_product xs ≡ 2 * y ∷ positive_product ys → 2 * x ≡ 2 * y
      head h = cc

      rest : 2 * x ∷ positive_product xs ≡ 2 * y ∷ positive_product ys → positive_product xs ≡ positive_product ys
      rest h = cc

      half : 2 * x ≡ 2 * y → x ≡ y
      half h = omega arith

  -- a positive part that includes no other is a minimal cut set
  least-minimal : (set : List ℕ) → IsMinimalMember positives set → IsCutProduct f limit set
  least-minimal set m = record {
    set = k.ranks;
    is_set = k.is;
    minimal = record { ascending = k.ascending; minimal = record { cuts = k.cuts; least = least } };
    within = k.within;
  }
    where
      k : Cutting set
      k = cutting set m.member

      least : (part : List ℕ) → is_part part k.ranks ≡ true → f (occurs part) ≡ true → part ≡ k.ranks
      least part p cuts =
          let q = minimal-part f part (part-ascending part k.ranks p k.ascending) cuts in
          let whole : is_part q.0 k.ranks ≡ true = part-trans q.0 part k.ranks q.1 p in
          let shorter = part-le q.0 k.ranks whole in
          let w = k.within in
          let there = minimal-there q.0 q.2 (omega (arith, shorter, w)) in
          let equal : positive_product q.0 ≡ set = m.least (positive_product q.0) there
          (subst (λ (l : List ℕ). is_part (positive_product q.0) l ≡ true) (sym k.is) (part-positive q.0 k.ranks whole)) in
          let same : q.0 ≡ k.ranks = same-product q.0 k.ranks (equal ∙ k.is) in
          let lengths : length q.0 ≡ length k.ranks = ap (λ (l : List ℕ). length l) same in
          let le = part-le q.0 part q.1 in
          elim (part-length part k.ranks p) [ inl lt ↦ absurd (omega (arith, lt, lengths, le)) | inr e ↦ e ]

  -- and the other way round
  minimal-least : (set : List ℕ) → IsCutProduct f limit set → IsMinimalMember positives set
  minimal-least set d = record {
    member = subst (λ (l : List ℕ). positives l ≡ true) (sym d.is_set) (minimal-there d.set d.minimal d.within);
    least = λ part m p.
        let k : Cutting part = cutting part m in
        let inside : is_part k.ranks d.set ≡ true = positive-part k.ranks d.set
        (subst (λ (l : List ℕ). is_part l (positive_product d.set) ≡ true) k.is (subst (λ (l : List ℕ). is_part part l ≡ true) d.is_set p)) in
        let same : k.ranks ≡ d.set = d.minimal.minimal.least k.ranks inside k.cuts in
        k.is ∙ ap (λ (l : List ℕ). positive_product l) same ∙ sym d.is_set;
  }

  -- so the least positive parts are the minimal cut sets within the limit
  pub least-cuts : (least : List ℕ → Bool) → ((set : List ℕ) → (least set ≡ true) ↔ IsMinimalMember positives set) → (set : List ℕ) → (least set ≡ true) ↔ IsCutProduct f limit set
  least-cuts least is set = (λ m. least-minimal set ((is set).0 m), λ d. (is set).1 (minimal-least set d))
