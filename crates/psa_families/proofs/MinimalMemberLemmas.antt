-- The members of a family that include no other member, by its sides.
use Rattle.std.proofs.Common.{◌≡◌, ◌↔◌, ℕ, zero, suc, ◌<◌, ◌≤◌, ◌&&◌, nat_lt, Bool, true, List, [], ◌∷◌, length, sym, ap, subst, ◌∙◌, inl, inr, arith}
use Rattle.std.proofs.lemmas.Bool.{and_parts, and_from, lt-ltb, ltb-true}
use Rattle.std.proofs.lemmas.Bool.Decides.{eqb_tells}
use Rattle.psa_logic.specs.Sets.{is_part}
use Rattle.psa_logic.proofs.PartLemmas.{part-self, part-nil, part-skip, part-cons, part-trans, part-le, part-length, part-all_above}
use Rattle.psa_logic.proofs.MinimalPartLemmas.{some_part}
use Rattle.psa_nodes.specs.Families.{Spares, IsMinimalMember}
use Rattle.psa_nodes.specs.Readings.{joined}
use Rattle.psa_nodes.proofs.CallerLemmas.{AreAbove, joined-own}
use Rattle.psa_families.proofs.JoinedLemmas.{low-joined, high-joined, joined-low}

-- a member includes a minimal one, by its length
least-member_below : (p : List ℕ → Bool) (bound : ℕ) (set : List ℕ) → length set < bound → p set ≡ true → (part : List ℕ) × (is_part part set ≡ true) × IsMinimalMember p part
least-member_below p zero set le m = absurd (omega arith)
least-member_below p (suc bound) set le m = elim (some_part (λ part. nat_lt (length part) (length set) && p part) set) [
  | inl found ↦
      let both = and_parts (nat_lt (length found.0) (length set)) (p found.0) found.2 in
      let shorter : length found.0 < length set = ltb-true (length found.0) (length set) both.0 in
      let least = least-member_below p bound found.0 (omega arith) both.1 in
      (least.0, part-trans least.0 found.0 set least.1 found.1, least.2)
  | inr none ↦ (
    set,
    part-self set,
    record {
      member = m;
      least = λ part also h. elim (part-length part set h) [
        | inl shorter ↦ absurd (none part h (and_from (nat_lt (length part) (length set)) (p part) (lt-ltb (length part) (length set) shorter) also))
        | inr same ↦ same
      ];
    },
  )
]

-- each member includes a minimal one
pub least-member : (p : List ℕ → Bool) (set : List ℕ) → p set ≡ true → (part : List ℕ) × (is_part part set ≡ true) × IsMinimalMember p part
least-member p set m = least-member_below p (suc (length set)) set (omega arith) m

-- Without the variable the minimal members are those of the low side; with it those of the high side that
-- include none of the low side.
module _ (x : ℕ) (f1 f0 m1 m0 h1 : List ℕ → Bool) (a0 : AreAbove x f0)
    (low : (set : List ℕ) → (m0 set ≡ true) ↔ IsMinimalMember f0 set) (high : (set : List ℕ) → (m1 set ≡ true) ↔ IsMinimalMember f1 set)
    (spared : (set : List ℕ) → (h1 set ≡ true) ↔ ((m1 set ≡ true) × Spares m0 set)) where
  abbrev whole : List ℕ → Bool
  whole = joined x f1 f0

  -- what includes no minimal member includes no member
  spares-all : (set : List ℕ) → Spares m0 set → Spares f0 set
  spares-all set s part m p =
      let least = least-member f0 part m in
      s least.0 ((low least.0).1 least.2) (part-trans least.0 part set least.1 p)

  low-to : (set : List ℕ) → m0 set ≡ true → IsMinimalMember whole set
  low-to set m =
      let c = (low set).0 m in
      record {
        member = low-joined x f1 f0 a0 set c.member;
        least = λ part k p. c.least part (joined-low x f1 f0 part (part-all_above x part set p (a0 set c.member)) k) p;
      }

  low-from : (set : List ℕ) → f0 set ≡ true → IsMinimalMember whole set → m0 set ≡ true
  low-from set m c = (low set).1 (record { member = m; least = λ part k p. c.least part (low-joined x f1 f0 a0 part k) p })

  high-to : (set : List ℕ) → h1 set ≡ true → IsMinimalMember whole (x ∷ set)
  high-to set h = record { member = high-joined x f1 f0 set c.member; least = least }
    where
      both : (m1 set ≡ true) × Spares m0 set
      both = (spared set).0 h

      c : IsMinimalMember f1 set
      c = (high set).0 both.0

      least : (part : List ℕ) → whole part ≡ true → is_part part (x ∷ set) ≡ true → part ≡ x ∷ set
      least [] k p = absurd (spares-all set both.1 [] k (part-nil set))
      least (t ∷ ts) k p = elim (eqb_tells t x) [
        | inl q ↦
            let rest : ts ≡ set = c.least ts (rw q.0 at k) (rw q.0 at p) in
            ap (λ (y : ℕ). y ∷ ts) q.1 ∙ ap (λ (l : List ℕ). x ∷ l) rest
        | inr q ↦ absurd (spares-all set both.1 (t ∷ ts) (rw q.0 at k) (rw q.0 at p))
      ]

  high-from : (set : List ℕ) → IsMinimalMember whole (x ∷ set) → h1 set ≡ true
  high-from set c =
      (spared set).1 (
        (high set).1 (record {
          member = sym (joined-own x f1 f0 set) ∙ c.member;
          least = λ part k p. tails (c.least (x ∷ part) (high-joined x f1 f0 part k) (part-cons x part set p));
        }),
        λ part k p.
            let same : part ≡ x ∷ set = c.least part (low-joined x f1 f0 a0 part ((low part).0 k).member) (part-skip set x part p) in
            let le : length part ≤ length set = part-le part set p in
            let lengths : length part ≡ length (x ∷ set) = ap (λ (l : List ℕ). length l) same in
            omega (arith, le, lengths),
      )
    where
      tails : {ts xs : List ℕ} → x ∷ ts ≡ x ∷ xs → ts ≡ xs
      tails e = cc

  -- so both together are the minimal members of the whole
  pub minimal-sides : (set : List ℕ) → (joined x h1 m0 set ≡ true) ↔ IsMinimalMember whole set
  minimal-sides [] = (λ m. low-to [] m, λ c. low-from [] c.member c)
  minimal-sides (y ∷ ys) = elim (eqb_tells y x) [
    | inl q ↦ rw q.0 (subst (λ (v : ℕ). (h1 ys ≡ true) ↔ IsMinimalMember whole (v ∷ ys)) (sym q.1) (λ m. high-to ys m, λ c. high-from ys c))
    | inr q ↦ rw q.0 (λ m. low-to (y ∷ ys) m, λ c. low-from (y ∷ ys) (rw q.0 at c.member) c)
  ]
