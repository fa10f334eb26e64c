-- The worked example: the minimal cut sets of both trains, and what comes from them.
use Rattle.std.proofs.Common.{◌≡◌, ℕ, Bool, true, List, [], ◌∷◌, ◌&&◌, ◌||◌, refl, sym, ap, subst, ◌∙◌, inl, inr}
use Rattle.std.proofs.lemmas.Bool.{false≢true, and_parts, or_cases}
use Rattle.std.proofs.lemmas.Bool.Decides.{eqb_tells}
use Rattle.psa_logic.specs.Sets.{is_ascending, occurs, Has}
use Rattle.psa_logic.specs.Products.{IsMinimalCutSet}
use Rattle.psa_logic.proofs.PartLemmas.{occurs-has, part-from_has}
use Rattle.psa_modules.specs.Modules.{whole, AreFalseAtNone, IsSubstitution}
use Rattle.psa_modules.specs.TwoTrains.{train_of, train_fails, both_fail, four_sets}
use Rattle.psa_modules.proofs.TestLemmas.{IsBelow, minimal-from}
use Rattle.psa_modules.proofs.SubstitutionLemmas.{comes, gives}

-- two events that are a cut set, each of which any cut set of them needs, are a minimal one
pair-minimal : (f : (ℕ → Bool) → Bool) (a b : ℕ) → is_ascending (a ∷ b ∷ []) ≡ true → f (occurs (a ∷ b ∷ [])) ≡ true
    → ((t : ℕ → Bool) → IsBelow t (occurs (a ∷ b ∷ [])) → f t ≡ true → (t a ≡ true) × (t b ≡ true))
    → IsMinimalCutSet f (a ∷ b ∷ [])
pair-minimal f a b h cuts needs = minimal-from f (a ∷ b ∷ []) h (record {
  cuts = cuts;
  least = λ t below holds x m. elim (occurs-has (a ∷ b ∷ []) x m) [
    | inl e ↦ ap t (sym e) ∙ (needs t below holds).0
    | inr r ↦ elim r [
      | inl e ↦ ap t (sym e) ∙ (needs t below holds).1
      | inr n ↦ absurd n
    ]
  ];
})

-- a minimal cut set that has both events of a cut set is these two
pair-only : (f : (ℕ → Bool) → Bool) (a b : ℕ) (set : List ℕ) → is_ascending (a ∷ b ∷ []) ≡ true
    → f (occurs (a ∷ b ∷ [])) ≡ true → IsMinimalCutSet f set → occurs set a ≡ true → occurs set b ≡ true
    → (a ∷ b ∷ []) ≡ set
pair-only f a b set h cuts minimal in_a in_b = minimal.minimal.least (a ∷ b ∷ [])
    (part-from_has (a ∷ b ∷ []) set h minimal.ascending (λ n m. elim m [
      | inl e ↦ occurs-has set n (ap (occurs set) (sym e) ∙ in_a)
      | inr r ↦ elim r [
        | inl e ↦ occurs-has set n (ap (occurs set) (sym e) ∙ in_b)
        | inr n ↦ absurd n
      ]
    ]))
    cuts

-- both trains are the only minimal cut set of both
pub trains-only : (modules : List ℕ) → IsMinimalCutSet both_fail modules → modules ≡ 4 ∷ 5 ∷ []
trains-only modules minimal =
    let p = and_parts (occurs modules 4) (occurs modules 5) minimal.minimal.cuts in
    sym (pair-only both_fail 4 5 modules refl refl minimal p.0 p.1)

-- They are one.
pub trains-minimal : IsMinimalCutSet both_fail (4 ∷ 5 ∷ [])
trains-minimal = pair-minimal both_fail 4 5 refl refl (λ t below holds. and_parts (t 4) (t 5) holds)

-- the truth of the system
abbrev pub system : (ℕ → Bool) → Bool
system = whole train_of train_fails both_fail

-- It is that of the events.
system-is : (s : ℕ → Bool) → system s ≡ ((s 0 || s 1) && (s 2 || s 3))
system-is s = refl

-- of two events of which one occurs, and not the second, the first does
first-of : (x y : Bool) → (x || y) ≡ true → (y ≡ true → ⊥) → x ≡ true
first-of x y h none = elim (or_cases x y h) [ inl e ↦ e | inr e ↦ absurd (none e) ]

-- Of the two, not the first: the second does.
second-of : (x y : Bool) → (x || y) ≡ true → (x ≡ true → ⊥) → y ≡ true
second-of x y h none = elim (or_cases x y h) [ inl e ↦ absurd (none e) | inr e ↦ e ]

-- a minimal cut set of the system is one of the four
pub four-only : (set : List ℕ) → IsMinimalCutSet system set → Has four_sets set
four-only set minimal =
    let p = and_parts (occurs set 0 || occurs set 1) (occurs set 2 || occurs set 3) minimal.minimal.cuts in
    elim (or_cases (occurs set 0) (occurs set 1) p.0) [
      | inl a ↦ elim (or_cases (occurs set 2) (occurs set 3) p.1) [
        | inl b ↦ inl (pair-only system 0 2 set refl refl minimal a b)
        | inr b ↦ inr (inl (pair-only system 0 3 set refl refl minimal a b))
      ]
      | inr a ↦ elim (or_cases (occurs set 2) (occurs set 3) p.1) [
        | inl b ↦ inr (inr (inl (pair-only system 1 2 set refl refl minimal a b)))
        | inr b ↦ inr (inr (inr (inl (pair-only system 1 3 set refl refl minimal a b))))
      ]
    ]

-- each of the four is a minimal cut set of the system
pub four-minimal : (set : List ℕ) → Has four_sets set → IsMinimalCutSet system set
four-minimal set h = elim h [
  | inl e ↦ subst (λ xs. IsMinimalCutSet system xs) e (pair-minimal system 0 2 refl refl (λ t below holds.
      let p = and_parts (t 0 || t 1) (t 2 || t 3) holds in
      (first-of (t 0) (t 1) p.0 (λ k. false≢true (below 1 k)), first-of (t 2) (t 3) p.1 (λ k. false≢true (below 3 k)))))
  | inr h ↦ elim h [
    | inl e ↦ subst (λ xs. IsMinimalCutSet system xs) e (pair-minimal system 0 3 refl refl (λ t below holds.
        let p = and_parts (t 0 || t 1) (t 2 || t 3) holds in (
          first-of (t 0) (t 1) p.0 (λ k. false≢true (below 1 k)),
          second-of (t 2) (t 3) p.1
              (λ k. false≢true (below 2 k)),
        )))
    | inr h ↦ elim h [
      | inl e ↦ subst (λ xs. IsMinimalCutSet system xs) e (pair-minimal system 1 2 refl refl (λ t below holds.
          let p = and_parts (t 0 || t 1) (t 2 || t 3) holds in (
            second-of (t 0) (t 1) p.0 (λ k. false≢true (below 0 k)),
            first-of (t 2) (t 3) p.1
                (λ k. false≢true (below 3 k)),
          )))
      | inr h ↦ elim h [
        | inl e ↦ subst (λ xs. IsMinimalCutSet system xs) e (pair-minimal system 1 3 refl refl (λ t below holds.
            let p = and_parts (t 0 || t 1) (t 2 || t 3) holds in (
              second-of (t 0) (t 1) p.0 (λ k. false≢true (below 0 k)),
              second-of (t 2) (t 3) p.1
                  (λ k. false≢true (below 2 k)),
            )))
        | inr n ↦ absurd n
      ]
    ]
  ]
]

-- no train fails where no event occurs
none-fails : AreFalseAtNone train_fails
none-fails train = elim (eqb_tells train 4) [
  | inl p ↦ rw p.0 refl
  | inr p ↦ elim (eqb_tells train 5) [ inl q ↦ rw (p.0, q.0) refl | inr q ↦ rw (p.0, q.0) refl ]
]

-- what comes from both trains is one of the four
pub puts-only : (set : List ℕ) → IsSubstitution train_of train_fails (4 ∷ 5 ∷ []) set → Has four_sets set
puts-only set put =
    four-only set (gives train_of train_fails both_fail set none-fails (4 ∷ 5 ∷ []) trains-minimal put)

-- each of the four comes from both trains
pub puts-each : (set : List ℕ) → Has four_sets set → IsSubstitution train_of train_fails (4 ∷ 5 ∷ []) set
puts-each set h =
    let from = comes train_of train_fails both_fail set none-fails (four-minimal set h) in
    subst (λ trains. IsSubstitution train_of train_fails trains set) (trains-only from.0 from.1) from.2
