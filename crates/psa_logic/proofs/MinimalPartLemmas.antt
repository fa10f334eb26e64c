-- Each set at which a truth holds has a minimal part.
use Rattle.std.proofs.Common.{◌≡◌, ◌⊎◌, ℕ, zero, suc, ◌<◌, Bool, true, false, List, [], ◌∷◌, length, nat_lt, ◌&&◌, refl, sym, ap, ◌∙◌, inl, inr, arith}
use Rattle.std.proofs.lemmas.Bool.{false≢true, and_parts, and_from, lt-ltb, ltb-true, cases_Bool}
use Rattle.std.proofs.lemmas.Bool.Decides.{eqb_tells}
use Rattle.psa_logic.specs.Sets.{is_ascending, is_part, occurs}
use Rattle.psa_logic.specs.Products.{IsMinimal, IsMinimalCutSet}
use Rattle.psa_logic.proofs.PartLemmas.{part-self, part-nil, part-skip, part-cons, part-trans, part-length, part-ascending}

-- a part passes a test, or none does
pub some_part : (p : List ℕ → Bool) (set : List ℕ) → ((part : List ℕ) × (is_part part set ≡ true) × (p part ≡ true)) ⊎ ((part : List ℕ) → is_part part set ≡ true → p part ≡ true → ⊥)
some_part p [] = elim (cases_Bool (p [])) [
  | inl passes ↦ inl ([], refl, passes)
  | inr fails ↦ inr (only fails)
]
  where
    only : p [] ≡ false → (part : List ℕ) → is_part part [] ≡ true → p part ≡ true → ⊥
    only fails [] h k = false≢true (sym fails ∙ k)
    only fails (t ∷ ts) h k = false≢true h
some_part p (x ∷ xs) = elim (some_part (λ part. p (x ∷ part)) xs) [
  | inl found ↦ inl (x ∷ found.0, part-cons x found.0 xs found.1, found.2)
  | inr without ↦ elim (some_part p xs) [
    | inl found ↦ inl (found.0, part-skip xs x found.0 found.1, found.2)
    | inr none ↦ inr (neither without none)
  ]
]
  where
    neither : ((part : List ℕ) → is_part part xs ≡ true → p (x ∷ part) ≡ true → ⊥) → ((part : List ℕ) → is_part part xs ≡ true → p part ≡ true → ⊥) → (part : List ℕ) → is_part part (x ∷ xs) ≡ true → p part ≡ true → ⊥
    neither without none [] h k = none [] (part-nil xs) k
    neither without none (t ∷ ts) h k = elim (eqb_tells t x) [
      | inl e ↦ without ts (rw e.0 at h) (ap (λ v. p (v ∷ ts)) (sym e.1) ∙ k)
      | inr e ↦ none (t ∷ ts) (rw e.0 at h) k
    ]

-- a set at which the truth holds has a minimal part, by its length
minimal-part_below : (f : (ℕ → Bool) → Bool) (bound : ℕ) (set : List ℕ) → length set < bound → f (occurs set) ≡ true → (part : List ℕ) × (is_part part set ≡ true) × IsMinimal f part
minimal-part_below f zero set le cuts = absurd (omega arith)
minimal-part_below f (suc bound) set le cuts = elim (some_part (λ part. nat_lt (length part) (length set) && f (occurs part)) set) [
  | inl found ↦
      let both = and_parts (nat_lt (length found.0) (length set)) (f (occurs found.0)) found.2 in
      let shorter : length found.0 < length set = ltb-true (length found.0) (length set) both.0 in
      let least = minimal-part_below f bound found.0 (omega arith) both.1 in
      (least.0, part-trans least.0 found.0 set least.1 found.1, least.2)
  | inr none ↦ (
    set,
    part-self set,
    record {
      cuts = cuts;
      least = λ part h also. elim (part-length part set h) [
        | inl shorter ↦ absurd (none part h (and_from (nat_lt (length part) (length set)) (f (occurs part)) (lt-ltb (length part) (length set) shorter) also))
        | inr same ↦ same
      ];
    },
  )
]

-- Each set at which a truth holds has a part that is a minimal cut set of it.
pub minimal-part : (f : (ℕ → Bool) → Bool) (set : List ℕ) → is_ascending set ≡ true → f (occurs set) ≡ true → (part : List ℕ) × (is_part part set ≡ true) × IsMinimalCutSet f part
minimal-part f set ascending cuts =
    let least = minimal-part_below f (suc (length set)) set (omega arith) cuts in
    (least.0, least.1, record { ascending = part-ascending least.0 set least.1 ascending; minimal = least.2 })
