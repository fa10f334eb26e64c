-- A gate keeps its events exactly where it stands on every way from the top event to each of them.
use Rattle.std.proofs.Common.{◌≡◌, ℕ, zero, suc, Bool, true, false, List, [], ◌∷◌, ◌||◌, not, refl, sym, ap, subst, ◌∙◌, inl, inr}
use Rattle.std.specs.List.{flat_map, list_all, list_any}
use Rattle.std.proofs.lemmas.Bool.{false≢true, or_parts, cases_Bool}
use Rattle.psa_logic.specs.Sets.{occurs, Has}
use Rattle.psa_logic.proofs.ListingLemmas.{has-map_from}
use Rattle.psa_logic.proofs.PartLemmas.{occurs-has, has-occurs}
use Rattle.psa_model.specs.declared.expanded.Expanded.{Expanded}
use Rattle.psa_model.specs.declared.formula.Formula.{Formula}
use Rattle.psa_model.specs.declared.formula.Formula.TheViews.{out-Formula}
use Rattle.psa_model.specs.declared.formula.Formula.TheVariants as variant
use Rattle.psa_model.specs.declared.model.TheConstants.{MAX_DEPTH}
use Rattle.psa_modules.specs.Occurrences.{Occurrence, occurrences, occurrences_in, parts_of, put_inside, is_gate, events_at, events_at_layer, is_inside}
use Rattle.psa_modules.specs.OuterModules.{events_inside, keeps_its_events, shows_event_of}
use Rattle.psa_modules.specs.Ways.{visits_around, events_around}
use Rattle.psa_modules.proofs.ApartLemmas.{IsWithin, inside-step, or-false, or-second, gate-layer}
use Rattle.psa_modules.proofs.UnfoldingLemmas.{all-has, any-has, any-from, has-flat_from, step_into, occurs-part, own-place, visits-cases, visits-part, events-visited}

-- Where each item passes, all do.
all-from : {A : Type 0} (test : A → Bool) (xs : List A) → ((x : A) → Has xs x → test x ≡ true) → list_all test xs ≡ true
all-from test [] each = refl
all-from test (x ∷ xs) each = rw (each x (inl refl), all-from test xs (λ y has. each y (inr has))) refl

-- no event stands at a reference to a gate
no-event : (expanded : Expanded) (gate event : ℕ) (f : Formula) → is_gate gate f ≡ true → Has (events_at expanded f) event
    → ⊥
no-event expanded gate event f h at =
    subst (λ layer. Has (events_at_layer expanded layer) event) (gate-layer gate (out-Formula f) h) at

-- an event at a place outside a gate is met around it
place-around : (n : ℕ) (expanded : Expanded) (gate : ℕ) (f : Formula) (place : Occurrence) (event : ℕ)
    → Has (occurrences n expanded.model f) place → Has (events_at expanded place.one) event
    → is_inside gate place ≡ false → Has (visits_around n expanded gate f) event
unfolding occurrences visits_around
place-around zero expanded gate f place event has at out = absurd has
place-around (suc n) expanded gate f place event has at out = elim has [
  | inl e ↦
      let here : Has (events_at expanded f) event = subst (λ q. Has (events_at expanded q.one) event) (sym e) at in
      elim (cases_Bool (is_gate gate f)) [
        | inl p ↦ absurd (no-event expanded gate event f p here)
        | inr p ↦ rw p (events-visited expanded (λ g. visits_around n expanded gate g) (out-Formula f) event here)
      ]
  | inr m ↦
      let found = has-map_from (put_inside f)
      (flat_map (λ g. occurrences n expanded.model g) (parts_of expanded.model (out-Formula f))) place m in
      let inner = has-flat_from (λ g. occurrences n expanded.model g) (parts_of expanded.model (out-Formula f))
      found.0 found.1 in
      let both = or_parts (is_gate gate f) (is_inside gate found.0) (ap (is_inside gate) found.2 ∙ out) in
      let deeper : Has (visits_around n expanded gate inner.0) event =
      place-around n expanded gate inner.0 found.0 event inner.2
      (subst (λ q. Has (events_at expanded q.one) event) (sym found.2) at) both.1 in
      rw both.0 (visits-part expanded (λ g. visits_around n expanded gate g) (out-Formula f) inner.0 event inner.1 deeper)
]

-- an event that is met around a gate stands at a place outside it
around-place : (n : ℕ) (expanded : Expanded) (top gate event : ℕ) → IsWithin expanded.model top → (place : Occurrence)
    → Has (occurrences_in expanded.model top) place → is_inside gate place ≡ false
    → Has (visits_around n expanded gate place.one) event
    → (there : Occurrence) × Has (occurrences_in expanded.model top) there
    × Has (events_at expanded there.one) event × (is_inside gate there ≡ false)
unfolding visits_around
around-place zero expanded top gate event enough place has out met = absurd met
around-place (suc n) expanded top gate event enough place has out met = elim (cases_Bool (is_gate gate place.one)) [
  | inl p ↦ absurd (rw p at met)
  | inr p ↦
      elim (visits-cases expanded (λ g. visits_around n expanded gate g) (out-Formula place.one) event (rw p at met)) [
        | inl at ↦ (place, has, at, out)
        | inr part ↦
            around-place n expanded top gate event enough (step_into place part.0)
            (occurs-part (suc MAX_DEPTH) expanded.model (variant.Gate (record { 0 = top })) place part.0 enough has part.1)
            (inside-step gate place part.0 ∙ or-false (is_inside gate place) (is_gate gate place.one) out p) part.2
      ]
]

-- a gate that keeps its events stands on every way to them
pub keeps-ways : (expanded : Expanded) (top gate : ℕ) → IsWithin expanded.model top
    → keeps_its_events expanded top gate ≡ true → (event : ℕ)
    → occurs (events_inside expanded gate) event ≡ true → occurs (events_around expanded top gate) event ≡ true → ⊥
keeps-ways expanded top gate enough keeps event inside around =
    let found = around-place (suc MAX_DEPTH) expanded top gate event enough
    (record { around = []; one = variant.Gate (record { 0 = top }) })
    (own-place (suc MAX_DEPTH) expanded.model (variant.Gate (record { 0 = top })) enough) refl
    (occurs-has (events_around expanded top gate) event around) in
    let shows : shows_event_of expanded gate found.0 ≡ true =
    any-from (occurs (events_inside expanded gate)) (events_at expanded found.0.one) event found.2 inside in
    let held : is_inside gate found.0 ≡ true =
    or-second (shows_event_of expanded gate found.0) (is_inside gate found.0)
    (all-has (λ p. not (shows_event_of expanded gate p) || is_inside gate p) (occurrences_in expanded.model top) keeps
    found.0 found.1) shows in
    false≢true (sym found.3 ∙ held)

-- a gate on every way to its events keeps them
pub ways-keep : (expanded : Expanded) (top gate : ℕ)
    → ((event : ℕ) → occurs (events_inside expanded gate) event ≡ true
    → occurs (events_around expanded top gate) event ≡ true → ⊥)
    → keeps_its_events expanded top gate ≡ true
ways-keep expanded top gate ways =
    all-from (λ p. not (shows_event_of expanded gate p) || is_inside gate p) (occurrences_in expanded.model top)
    (λ place has. elim (cases_Bool (is_inside gate place)) [
      | inl p ↦ rw p (or-true (not (shows_event_of expanded gate place)))
      | inr p ↦ elim (cases_Bool (shows_event_of expanded gate place)) [
        | inl k ↦
            let found = any-has (occurs (events_inside expanded gate)) (events_at expanded place.one) k in
            absurd (ways found.0 found.2 (has-occurs (events_around expanded top gate) found.0
            (place-around (suc MAX_DEPTH) expanded gate (variant.Gate (record { 0 = top })) place found.0 has found.1 p)))
        | inr k ↦ rw k refl
      ]
    ])
  where
    or-true : (a : Bool) → (a || true) ≡ true
    or-true true = refl
    or-true false = refl
