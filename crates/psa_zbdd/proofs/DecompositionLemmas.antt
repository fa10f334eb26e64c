-- The minimal cut sets of a truth by those of its sides (Rauzy), within a limit. No truth is asked to be monotone.
use Rattle.std.proofs.Common.{◌≡◌, ◌↔◌, ℕ, ◌+◌, ◌-◌, ◌*◌, ◌<◌, ◌≤◌, Bool, true, nat_lt, List, [], ◌∷◌, length, if◌then◌else◌, refl, sym, ap, subst, ◌∙◌, inl, inr, arith}
use Rattle.std.proofs.lemmas.Bool.{and_parts, and_from, lt-ltb, ltb-true}
use Rattle.std.proofs.lemmas.Bool.Decides.{eqb_tells}
use Rattle.psa_logic.specs.Sets.{all_above, is_ascending, is_part, occurs}
use Rattle.psa_logic.specs.Products.{positive_product, IsMinimalCutSet, IsCutProduct}
use Rattle.psa_logic.proofs.PartLemmas.{eqb-same, part-nil, part-skip, part-cons, part-trans, part-le, all_above-occurs, part-all_above, part-ascending, all_above-lower}
use Rattle.psa_logic.proofs.MinimalPartLemmas.{minimal-part}
use Rattle.psa_nodes.specs.Readings.{joined}
use Rattle.psa_nodes.specs.Families.{Spares}
use Rattle.psa_families.proofs.PositiveProductLemmas.{part-positive, positive-part, above-positive, DependsFrom, head-same, minimal-head, minimal-above}

module _ (x : ℕ) (f f1 f0 : (ℕ → Bool) → Bool) (is : (s : ℕ → Bool) → f s ≡ (if s x then f1 s else f0 s)) (from : DependsFrom x f) (from1 : DependsFrom (x + 1) f1) (from0 : DependsFrom (x + 1) f0) where
  -- the truth at a set above x, and at one that begins with x
  at-low : (set : List ℕ) → all_above x set ≡ true → f (occurs set) ≡ f0 (occurs set)
  at-low set above = is (occurs set) ∙ ap (λ b. if b then f1 (occurs set) else f0 (occurs set)) (all_above-occurs x set above)

  at-high : (set : List ℕ) → f (occurs (x ∷ set)) ≡ f1 (occurs set)
  at-high set =
      let own : occurs (x ∷ set) x ≡ true = rw (eqb-same x) refl in
      is (occurs (x ∷ set)) ∙ ap (λ b. if b then f1 (occurs (x ∷ set)) else f0 (occurs (x ∷ set))) own ∙ head-same (x + 1) f1 from1 x set (omega arith)

  -- without x: the minimal cut sets of the low side
  low-minimal : (set : List ℕ) → IsMinimalCutSet f0 set → IsMinimalCutSet f set
  low-minimal set m =
      let above = minimal-above x f0 from0 set m in
      record {
        ascending = m.ascending;
        minimal = record {
          cuts = at-low set above ∙ m.minimal.cuts;
          least = λ part h c. m.minimal.least part h (sym (at-low part (part-all_above x part set h above)) ∙ c);
        };
      }

  minimal-low : (set : List ℕ) → all_above x set ≡ true → IsMinimalCutSet f set → IsMinimalCutSet f0 set
  minimal-low set above m = record {
    ascending = m.ascending;
    minimal = record {
      cuts = sym (at-low set above) ∙ m.minimal.cuts;
      least = λ part h c. m.minimal.least part h (at-low part (part-all_above x part set h above) ∙ c);
    };
  }

  -- with x: those of the high side that include no cut set of the low side
  high-minimal : (set : List ℕ) → IsMinimalCutSet f1 set → ((part : List ℕ) → is_part part set ≡ true → f0 (occurs part) ≡ true → ⊥) → IsMinimalCutSet f (x ∷ set)
  high-minimal set m none = record {
    ascending = and_from (all_above x set) (is_ascending set) above m.ascending;
    minimal = record { cuts = at-high set ∙ m.minimal.cuts; least = least };
  }
    where
      above : all_above x set ≡ true
      above = minimal-above x f1 from1 set m

      low-part : (part : List ℕ) → is_part part set ≡ true → f (occurs part) ≡ true → ⊥
      low-part part h c = none part h (sym (at-low part (part-all_above x part set h above)) ∙ c)

      least : (part : List ℕ) → is_part part (x ∷ set) ≡ true → f (occurs part) ≡ true → part ≡ x ∷ set
      least [] h c = absurd (low-part [] (part-nil set) c)
      least (t ∷ ts) h c = elim (eqb_tells t x) [
        | inl p ↦
            let whole : f (occurs (x ∷ ts)) ≡ true = subst (λ (y : ℕ). f (occurs (y ∷ ts)) ≡ true) p.1 c in
            let rest : ts ≡ set = m.minimal.least ts (rw p.0 at h) (sym (at-high ts) ∙ whole) in
            ap (λ (y : ℕ). y ∷ ts) p.1 ∙ ap (λ (l : List ℕ). x ∷ l) rest
        | inr p ↦ absurd (low-part (t ∷ ts) (rw p.0 at h) c)
      ]

  minimal-high : (set : List ℕ) → IsMinimalCutSet f (x ∷ set) → IsMinimalCutSet f1 set
  minimal-high set m = record {
    ascending = (and_parts (all_above x set) (is_ascending set) m.ascending).1;
    minimal = record {
      cuts = sym (at-high set) ∙ m.minimal.cuts;
      least = λ part h c. tails (m.minimal.least (x ∷ part) (part-cons x part set h) (at-high part ∙ c));
    };
  }
    where
      tails : {ts xs : List ℕ} → x ∷ ts ≡ x ∷ xs → ts ≡ xs
      tails e = cc

  none-low : (set : List ℕ) → IsMinimalCutSet f (x ∷ set) → (part : List ℕ) → is_part part set ≡ true → f0 (occurs part) ≡ true → ⊥
  none-low set m part h c =
      let above = (and_parts (all_above x set) (is_ascending set) m.ascending).0 in
      let same : part ≡ x ∷ set = m.minimal.least part (part-skip set x part h) (at-low part (part-all_above x part set h above) ∙ c) in
      let le : length part ≤ length set = part-le part set h in
      let lengths : length part ≡ length (x ∷ set) = ap (λ (l : List ℕ). length l) same in
      omega (arith, le, lengths)

  module _ (limit : ℕ) (h1 h0 : List ℕ → Bool) (low : (set : List ℕ) → (h0 set ≡ true) ↔ IsCutProduct f0 limit set)
      (high : (set : List ℕ) → (h1 set ≡ true) ↔ ((1 ≤ limit) × IsCutProduct f1 (limit - 1) set × Spares h0 set)) where
    low-to : (product : List ℕ) → h0 product ≡ true → IsCutProduct f limit product
    low-to product m =
        let c = (low product).0 m in
        record { set = c.set; is_set = c.is_set; minimal = low-minimal c.set c.minimal; within = c.within }

    low-from : (product : List ℕ) → all_above (2 * x) product ≡ true → IsCutProduct f limit product → h0 product ≡ true
    low-from product above c =
        (low product).1 (record {
          set = c.set;
          is_set = c.is_set;
          minimal = minimal-low c.set (halved c.set (subst (λ (p : List ℕ). all_above (2 * x) p ≡ true) c.is_set above)) c.minimal;
          within = c.within;
        })
      where
        halved : (set : List ℕ) → all_above (2 * x) (positive_product set) ≡ true → all_above x set ≡ true
        halved [] h = refl
        halved (y ∷ ys) h =
            let p = and_parts (nat_lt (2 * x) (2 * y)) (all_above (2 * x) (positive_product ys)) h in
            let lt : 2 * x < 2 * y = ltb-true (2 * x) (2 * y) p.0 in
            and_from (nat_lt x y) (all_above x ys) (lt-ltb x y (omega (arith, lt))) (halved ys p.1)

    high-to : (product : List ℕ) → h1 product ≡ true → IsCutProduct f limit (2 * x ∷ product)
    high-to product m =
        let h = (high product).0 m in
        let c = h.1 in
        let w : length c.set ≤ limit - 1 = c.within in
        record {
          set = x ∷ c.set;
          is_set = ap (λ (l : List ℕ). 2 * x ∷ l) c.is_set;
          minimal = high-minimal c.set c.minimal (λ part p cuts.
              let least = minimal-part f0 part (part-ascending part c.set p c.minimal.ascending) cuts in
              let le : length least.0 ≤ length part = part-le least.0 part least.1 in
              let le' : length part ≤ length c.set = part-le part c.set p in
              h.2 (positive_product least.0)
              ((low (positive_product least.0)).1 (record { set = least.0; is_set = refl; minimal = least.2; within = omega (arith, le, le', w) }))
              (subst (λ (l : List ℕ). is_part (positive_product least.0) l ≡ true) (sym c.is_set) (part-positive least.0 c.set (part-trans least.0 part c.set least.1 p))));
          within = let one = h.0 in omega (arith, w, one);
        }

    high-from : (product : List ℕ) → IsCutProduct f limit (2 * x ∷ product) → h1 product ≡ true
    high-from product c = begun c.set c.is_set c.minimal c.within
      where
        heads : (y : ℕ) (l : List ℕ) → 2 * x ∷ product ≡ 2 * y ∷ l → x ≡ y
        heads y l e = let h : 2 * x ≡ 2 * y = cc in omega (arith, h)

        rests : (y : ℕ) (l : List ℕ) → 2 * x ∷ product ≡ 2 * y ∷ l → product ≡ l
        rests y l e = cc

        empty : 2 * x ∷ product ≡ [] → ⊥
        empty e = cc

        at-x : (set : List ℕ) → product ≡ positive_product set → IsMinimalCutSet f (x ∷ set) → length (x ∷ set) ≤ limit → h1 product ≡ true
        at-x set e m le =
            (high product).1 (
              omega (arith, le),
              record { set = set; is_set = e; minimal = minimal-high set m; within = omega (arith, le) },
              λ part k p.
                  let d = (low part).0 k in
                  none-low set m d.set
                  (positive-part d.set set (subst (λ (l : List ℕ). is_part l (positive_product set) ≡ true) d.is_set (subst (λ (l : List ℕ). is_part part l ≡ true) e p)))
                  d.minimal.minimal.cuts,
            )

        begun : (set : List ℕ) → 2 * x ∷ product ≡ positive_product set → IsMinimalCutSet f set → length set ≤ limit → h1 product ≡ true
        begun [] e m le = absurd (empty e)
        begun (y ∷ ys) e m le =
            at-x ys (rests y (positive_product ys) e) (subst (λ (v : ℕ). IsMinimalCutSet f (v ∷ ys)) (sym (heads y (positive_product ys) e)) m) (omega (arith, le))

    -- a product that does not begin with x is above it
    past-head : (y : ℕ) (ys : List ℕ) → (y ≡ 2 * x → ⊥) → IsCutProduct f limit (y ∷ ys) → all_above (2 * x) (y ∷ ys) ≡ true
    past-head y ys ne c = begun c.set c.is_set c.minimal
      where
        heads : (z : ℕ) (l : List ℕ) → y ∷ ys ≡ 2 * z ∷ l → y ≡ 2 * z
        heads z l e = cc

        empty : y ∷ ys ≡ [] → ⊥
        empty e = cc

        begun : (set : List ℕ) → y ∷ ys ≡ positive_product set → IsMinimalCutSet f set → all_above (2 * x) (y ∷ ys) ≡ true
        begun [] e m = absurd (empty e)
        begun (z ∷ zs) e m =
            let le : x ≤ z = minimal-head x f from z zs m.minimal in
            let h : y ≡ 2 * z = heads z (positive_product zs) e in
            let lt : x < z = omega (arith, le, strict z h) in
            let p = and_parts (all_above z zs) (is_ascending zs) m.ascending in
            subst (λ (l : List ℕ). all_above (2 * x) l ≡ true) (sym e)
            (above-positive x (z ∷ zs) (and_from (nat_lt x z) (all_above x zs) (lt-ltb x z lt) (all_above-lower x z zs (omega (arith, lt)) p.0)))
          where
            strict : (z : ℕ) → y ≡ 2 * z → (x ≡ z → ⊥)
            strict z h e = ne (h ∙ ap (λ n. 2 * n) (sym e))

    -- the two sides together: what the families of the sides must hold
    pub cut-sides : (product : List ℕ) → (joined (2 * x) h1 h0 product ≡ true) ↔ IsCutProduct f limit product
    cut-sides [] = (λ m. low-to [] m, λ c. low-from [] refl c)
    cut-sides (y ∷ ys) = elim (eqb_tells y (2 * x)) [
      | inl p ↦ rw p.0 (subst (λ (v : ℕ). (h1 ys ≡ true) ↔ IsCutProduct f limit (v ∷ ys)) (sym p.1) (λ m. high-to ys m, λ c. high-from ys c))
      | inr p ↦ rw p.0 (λ m. low-to (y ∷ ys) m, λ c. low-from (y ∷ ys) (past-head y ys p.1 c) c)
    ]
