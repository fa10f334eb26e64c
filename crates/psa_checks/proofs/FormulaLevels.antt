-- A formula of a draft within so many levels is within as many in the model.
use Rattle.std.proofs.Common.{◌≡◌, inl, inr, ◌==◌, ℕ, zero, suc, Bool, true, false, [], ◌∷◌, Option, Some, None, map, length, refl, sym, ap, ◌∙◌, subst}
use Rattle.std.proofs.lemmas.Bool.{false≢true, and_parts, and_from, lt-ltb}
use Rattle.std.proofs.lemmas.List.{length-map}
use Rattle.std.proofs.lemmas.Option.{slice_get_within}
use Rattle.std.specs.Prelude.{is_none}
use Rattle.std.specs.List.{slice_get, list_all}
use Rattle.std.specs.Option.{option_and_then}
use Rattle.psa_model.specs.declared.formula.Formula.{Formula}
use Rattle.psa_model.specs.declared.formula.Formula.TheVariants as formula
use Rattle.psa_model.specs.declared.draft.DefinitionKind.TheVariants as kind
use Rattle.psa_model.specs.declared.draft.DraftFormula.{DraftFormula, out-DraftFormula}
use Rattle.psa_model.specs.declared.draft.DraftFormula.TheOpen.{DraftFormula-F}
use Rattle.psa_model.specs.declared.draft.DraftFormula.TheFolds.{fold_out-DraftFormula, map-DraftFormula}
use Rattle.psa_model.specs.Drafts.{Contents, formula_contents, formula_step}
use Rattle.psa_model.specs.Formulas.{has_arity}
use Rattle.psa_model.specs.Truth.{within}
use Rattle.psa_model.proofs.Levels.{out-gate, out-basic, out-house, out-constant, out-connective}
use Rattle.psa_names.specs.Outlines.{Outline, Entry, Entries, event, formula_outline, formula_layer}
use Rattle.psa_names.specs.Resolved.{event_formula, resolved_formula, resolved_formula_layer}
use Rattle.psa_model.specs.Drafts.{has_body}
use Rattle.psa_model.specs.declared.draft.DraftBody.{DraftBody}
use Rattle.psa_model.specs.declared.draft.DraftBody.TheVariants as body
use Rattle.psa_model.specs.declared.draft.DraftReference.{DraftReference}
use Rattle.psa_model.specs.declared.draft.EventKind.{EventKind}
use Rattle.psa_model.specs.declared.model.House.{House}
use Rattle.psa_names.specs.ModelOfDraft.{model_from, model_name, state_in, formula_in, gate_of}
use Rattle.psa_names.specs.Meanings.{Meaning, definition, of_group, meaning_of_event, scope_of}
use Rattle.psa_names.specs.Chains.{is_chained, chained_place, passes_on, is_within}
use Rattle.psa_names.specs.NameFaults.{reference_fault}
use Rattle.psa_names.specs.Ids.{kind_number, is_kind, id_of, basic_id}
use Rattle.psa_checks.proofs.KindForms.{gate-body, is-event}
use Rattle.psa_names.proofs.ListPlaces.{list_all-mapped}
use Rattle.psa_checks.proofs.Definitions.{AreEntries, made-at}
use Rattle.psa_checks.proofs.ReferencesStand.{IsEvent, event-at}
use Rattle.psa_checks.proofs.SoundElements.{IsSound, some-level, inside, sound-each, entry-sound}
use Rattle.psa_checks.proofs.BasicEvents.{own-pair, basic-pair-at, defined-pair}

-- ---- one layer

-- the outline of a formula, by its layer
pub outline-of : (f : DraftFormula)
    → formula_outline f ≡ formula_layer (map-DraftFormula DraftFormula Outline formula_outline (out-DraftFormula f))
outline-of f = fold_out-DraftFormula Outline formula_layer f

-- the contents of a formula, by its layer
pub contents-of : (f : DraftFormula)
    → formula_contents f ≡ formula_step (map-DraftFormula DraftFormula Contents formula_contents (out-DraftFormula f))
contents-of f = fold_out-DraftFormula Contents formula_step f

-- a formula in the model, by its layer
pub resolved-of : (entries : Entries) (from : Entry) (f : DraftFormula)
    → resolved_formula entries from f ≡ resolved_formula_layer entries from
    (map-DraftFormula DraftFormula Formula (resolved_formula entries from) (out-DraftFormula f))
resolved-of entries from f = fold_out-DraftFormula Formula (resolved_formula_layer entries from) f

-- each formula of these levels in a definition is within as many in the model
abbrev pub FormulasAt : Entries → ℕ → Type 0
FormulasAt entries levels = (from : Entry) (f : DraftFormula) → IsSound entries levels from (formula_outline f ∷ [])
    (formula_contents f ∷ []) → within levels (model_from entries) (resolved_formula entries from f) ≡ true

-- what a gate with a body says
abbrev pub formula_by : Entries → Entry → DraftBody → Formula
formula_by entries one (body.Formula its) = resolved_formula entries one its
formula_by entries one _ = formula.Constant false

-- the house event that a definition is in the model
abbrev pub house_of : Entry → House
house_of one = record { name = model_name one; place = one.place; state = state_in one.body }

-- ---- events

within-gate : (levels : ℕ) (entries : Entries) (from : Entry) (its : EventKind) (name : DraftReference) (place : ℕ)
    (one : Entry) → AreEntries entries → slice_get entries place ≡ Some one → one.kind ≡ kind.Gate
    → FormulasAt entries levels → list_all (is_within levels entries one) one.outlines ≡ true
    → within (suc levels) (model_from entries) (formula.Gate (record { 0 = id_of kind.Gate entries place })) ≡ true
unfolding within
within-gate levels entries from its name place one are there is below h =
    let entry = are place one there in
    let b = gate-body one.body (subst (λ k. has_body k one.body ≡ true) is entry.body) in
    let fine = entry-sound entries levels place one kind.Gate (body.Formula b.0) entry is b.1 h in
    let says : formula_in entries one ≡ resolved_formula entries one b.0 = ap (formula_by entries one) b.1 in
    let right : is_kind kind.Gate one ≡ true = ap (λ k. kind_number k == 1) is in
    let at = made-at kind.Gate entries (gate_of entries) place one there right in
    rw (out-gate (record { 0 = id_of kind.Gate entries place }), at)
    (ap (within levels (model_from entries)) says ∙ below one b.0 fine)

leads-to : (test : Entry → Bool) (entries : Entries) (place : ℕ) (one : Entry) → slice_get entries place ≡ Some one
    → is_chained one.kind ≡ true → passes_on test entries (chained_place entries (definition place)) ≡ true
    → test one ≡ true
leads-to test entries place one there chained h =
    let on : chained_place entries (definition place) ≡ Some place = rw there (rw chained refl) in
    rw there at (subst (λ o. passes_on test entries o ≡ true) on h)

event-meaning : (levels : ℕ) (entries : Entries) (from : Entry) (its : EventKind) (name : DraftReference)
    (o : Option Meaning) → AreEntries entries → FormulasAt entries levels
    → ((m : Meaning) → o ≡ Some m → IsEvent entries m) → is_none (reference_fault entries (event its) o) ≡ true
    → passes_on (λ to. list_all (λ one. is_within levels entries to one) to.outlines) entries
    (option_and_then (chained_place entries) o) ≡ true
    → within (suc levels) (model_from entries) (event_formula entries o) ≡ true
unfolding within
event-meaning levels entries from its name None are below at stands on = absurd (false≢true stands)
event-meaning levels entries from its name (Some (of_group n)) are below at stands on =
    let d = defined-pair entries are n (at (of_group n) refl) in
    let b = basic-pair-at entries (of_group n) _ d.4 in
    rw (out-basic (record { 0 = basic_id entries (of_group n) }))
    (lt-ltb _ _ (slice_get_within (model_from entries).basics (basic_id entries (of_group n)) b.0 b.1))
event-meaning levels entries from its name (Some (definition place)) are below at stands on =
    let e = at (definition place) refl in
    elim (is-event e.0.kind e.2) [
      | inl gate ↦
          let right : is_kind kind.Gate e.0 ≡ true = ap (λ k. kind_number k == 1) gate in
          let chained : is_chained e.0.kind ≡ true = ap is_chained gate in
          let h = leads-to (λ to. list_all (λ one. is_within levels entries to one) to.outlines)
          entries place e.0 e.1 chained on in
          rw e.1 (rw right (within-gate levels entries from its name place e.0 are e.1 gate below h))
      | inr (inl basic) ↦
          let no_gate : is_kind kind.Gate e.0 ≡ false = ap (λ k. kind_number k == 1) basic in
          let no_house : is_kind kind.HouseEvent e.0 ≡ false = ap (λ k. kind_number k == 3) basic in
          let b = basic-pair-at entries (definition place) _ (own-pair entries place e.0 e.1 basic) in
          rw e.1 (rw no_gate (rw no_house (rw (out-basic (record { 0 = basic_id entries (definition place) }))
          (lt-ltb _ _ (slice_get_within (model_from entries).basics (basic_id entries (definition place)) b.0 b.1)))))
      | inr (inr house) ↦
          let no_gate : is_kind kind.Gate e.0 ≡ false = ap (λ k. kind_number k == 1) house in
          let right : is_kind kind.HouseEvent e.0 ≡ true = ap (λ k. kind_number k == 3) house in
          let b = made-at kind.HouseEvent entries (λ one. house_of one.1) place e.0 e.1 right in
          rw e.1 (rw no_gate (rw right (rw (out-house (record { 0 = id_of kind.HouseEvent entries place }))
          (lt-ltb _ _ (slice_get_within (model_from entries).houses (id_of kind.HouseEvent entries place) _ b)))))
    ]

-- ---- formulas

layer-within : (levels : ℕ) (entries : Entries) (from : Entry) → AreEntries entries → FormulasAt entries levels
    → (x : DraftFormula-F DraftFormula)
    → IsSound entries (suc levels) from (formula_layer (map-DraftFormula DraftFormula Outline formula_outline x) ∷ [])
    (formula_step (map-DraftFormula DraftFormula Contents formula_contents x) ∷ [])
    → within (suc levels) (model_from entries)
    (resolved_formula_layer entries from (map-DraftFormula DraftFormula Formula (resolved_formula entries from) x))
    ≡ true
unfolding within
layer-within levels entries from are below (DraftFormula-F.Event its name) fine =
    let inner = inside entries levels from (Some (record { kind = event its; written = name })) [] true (Some name)
    [] fine in
    let stands = (and_parts _ true inner.own).0 in
    event-meaning levels entries from its name (meaning_of_event entries (scope_of from) name.name) are below
    (event-at entries (scope_of from) name.name) stands inner.on
layer-within levels entries from are below (DraftFormula-F.Constant state) fine = rw (out-constant state) refl
layer-within levels entries from are below (DraftFormula-F.Connective operator least most arguments) fine =
    let inner = inside entries levels from None (map formula_outline arguments)
    (has_arity operator least most (length (map formula_contents arguments))) None
    (map formula_contents arguments) fine in
    let all = sound-each entries levels from formula_outline formula_contents
    (λ f. within levels (model_from entries) (resolved_formula entries from f)) (below from)
    arguments inner.fine in
    let number : has_arity operator least most (length (map (resolved_formula entries from) arguments)) ≡ true =
    ap (has_arity operator least most) (length-map arguments (resolved_formula entries from)
    ∙ sym (length-map arguments formula_contents)) ∙ inner.right_number in
    rw (out-connective operator least most (map (resolved_formula entries from) arguments))
    (and_from _ _ number (list_all-mapped (within levels (model_from entries)) (resolved_formula entries from)
    arguments ∙ all))

-- a formula within some levels in a definition is within as many in the model
pub formula-within : (levels : ℕ) (entries : Entries) → AreEntries entries → FormulasAt entries levels
formula-within zero entries are from f fine = absurd (some-level entries from _ [] _ fine)
formula-within (suc levels) entries are from f fine =
    let laid = subst (λ (o : Outline). IsSound entries (suc levels) from (o ∷ []) (formula_contents f ∷ []))
    (outline-of f) fine in
    let both = subst (λ (c : Contents). IsSound entries (suc levels) from
    (formula_layer (map-DraftFormula DraftFormula Outline formula_outline (out-DraftFormula f)) ∷ []) (c ∷ []))
    (contents-of f) laid in
    ap (within (suc levels) (model_from entries)) (resolved-of entries from f)
    ∙ layer-within levels entries from are (formula-within levels entries are) (out-DraftFormula f) both
