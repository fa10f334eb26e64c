-- The event that is a module of its own, and the events that a truth sees.
use Rattle.std.proofs.Common.{◌≡◌, ◌==◌, ℕ, Bool, true, List, [], ◌∷◌, ◌&&◌, refl, sym, ap, ◌∙◌, inl, inr}
use Rattle.std.proofs.lemmas.Bool.{eq-eqb, and_parts, and_from}
use Rattle.std.specs.List.{filter}
use Rattle.psa_logic.specs.Sets.{occurs}
use Rattle.psa_logic.specs.Products.{IsMinimalCutSet}
use Rattle.psa_logic.proofs.PartLemmas.{eqb-same, occurs-has, part-from_has}
use Rattle.psa_modules.specs.Modules.{within, seen, part_of, IsSubstitution}
use Rattle.psa_modules.proofs.TestLemmas.{tests-same, bits-same, kept-part, occurs-kept, kept-occurs, minimal-from}

-- the quotient sees an event outside all modules where it occurs
pub seen-outside : (module_of : ℕ → ℕ) (truth_of : ℕ → (ℕ → Bool) → Bool) (event : ℕ) (s : ℕ → Bool)
    → truth_of (module_of event) ≡ (λ t. t event) → seen module_of truth_of s (module_of event) ≡ s event
seen-outside module_of truth_of event s is =
    ap (λ f. f (within module_of (module_of event) s)) is ∙ rw (eq-eqb (module_of event) (module_of event) refl) refl

-- it is in a set where it is in that of the quotient
pub outside-same : (module_of : ℕ → ℕ) (truth_of : ℕ → (ℕ → Bool) → Bool) (modules set : List ℕ) (event : ℕ)
    → truth_of (module_of event) ≡ (λ t. t event) → IsSubstitution module_of truth_of modules set
    → occurs set event ≡ occurs modules (module_of event)
outside-same module_of truth_of modules set event is sub =
    bits-same (occurs set event) (occurs modules (module_of event))
    (sub.only event)
    (λ h.
    let part : List ℕ = part_of module_of (module_of event) set in
    let there : occurs part event ≡ true = ap (λ f. f (occurs part)) (sym is) ∙
    (sub.parts (module_of event) h).minimal.cuts in
    (occurs-kept (λ e. module_of e == module_of event) set event there).1)

-- one event is the minimal cut set of its occurring
pub lone-minimal : (event : ℕ) → IsMinimalCutSet (λ s. s event) (event ∷ [])
lone-minimal event = minimal-from (λ s. s event) (event ∷ []) refl (record {
  cuts = rw (eqb-same event) refl;
  least = λ t below holds x m. elim (occurs-has (event ∷ []) x m) [
    | inl e ↦ ap t (sym e) ∙ holds
    | inr n ↦ absurd n
  ];
})

-- It is the only one.
pub lone-only : (event : ℕ) (set : List ℕ) → IsMinimalCutSet (λ s. s event) set → set ≡ event ∷ []
lone-only event set minimal = sym (minimal.minimal.least (event ∷ [])
    (part-from_has (event ∷ []) set refl minimal.ascending (λ n m. elim m [
      | inl e ↦ occurs-has set n (ap (occurs set) (sym e) ∙ minimal.minimal.cuts)
      | inr r ↦ absurd r
    ]))
    (rw (eqb-same event) refl))

-- a minimal cut set has only events that its truth sees
pub minimal-inside : (f : (ℕ → Bool) → Bool) (inside : ℕ → Bool) (set : List ℕ)
    → ((s : ℕ → Bool) → f s ≡ f (λ event. inside event && s event)) → IsMinimalCutSet f set → (event : ℕ)
    → occurs set event ≡ true → inside event ≡ true
minimal-inside f inside set sees minimal event h =
    let same : occurs (filter inside set) ≡ (λ e. inside e && occurs set e) =
    tests-same (occurs (filter inside set)) (λ e. inside e && occurs set e) (λ e.
    bits-same (occurs (filter inside set) e) (inside e && occurs set e)
    (λ k. let p = occurs-kept inside set e k in and_from (inside e) (occurs set e) p.0 p.1)
    (λ k. let p = and_parts (inside e) (occurs set e) k in kept-occurs inside set e p.0 p.1)) in
    let all : filter inside set ≡ set = minimal.minimal.least (filter inside set) (kept-part inside set)
    (ap f same ∙ (sym (sees (occurs set)) ∙ minimal.minimal.cuts)) in
    (occurs-kept inside set event (ap (λ xs. occurs xs event) all ∙ h)).0
