-- The references of a quotient stand, as those of its model do.
use Rattle.std.proofs.Common.{◌≡◌, ◌⊎◌, ◌==◌, ℕ, zero, suc, ◌+◌, ◌<◌, ◌≤◌, Bool, true, false, List, [], ◌∷◌, ◌++◌, Option, Some, None, length, map, nat_lt, ◌&&◌, length-append, refl, sym, ap, subst, ◌∙◌, inl, inr, arith}
use Rattle.std.specs.List.{slice_get, flat_map, list_all}
use Rattle.std.specs.Option.{option_map}
use Rattle.std.proofs.lemmas.Bool.{false≢true, and_parts, and_from, lt-ltb, cases_Bool}
use Rattle.std.proofs.lemmas.Bool.Decides.{nat_tests}
use Rattle.std.proofs.lemmas.Option.{slice_get_cases}
use Rattle.psa_logic.specs.Sets.{occurs, Has}
use Rattle.psa_logic.proofs.ListingLemmas.{has-map_from}
use Rattle.psa_logic.proofs.PartLemmas.{eqb-same, occurs-has, has-occurs}
use Rattle.psa_model.specs.declared.expanded.Expanded.{Expanded}
use Rattle.psa_model.specs.declared.expanded.ExpandedEvent.TheVariants as event
use Rattle.psa_model.specs.declared.formula.Connective.{Connective}
use Rattle.psa_model.specs.declared.formula.Formula.{Formula}
use Rattle.psa_model.specs.declared.formula.Formula.TheOpen.{Formula-F}
use Rattle.psa_model.specs.declared.formula.Formula.TheViews.{out-Formula}
use Rattle.psa_model.specs.declared.formula.Formula.TheVariants as variant
use Rattle.psa_model.specs.declared.ids.EventId.{EventId}
use Rattle.psa_model.specs.declared.ids.FaultTreeId.{FaultTreeId}
use Rattle.psa_model.specs.declared.ids.GateId.{GateId}
use Rattle.psa_model.specs.declared.model.TheConstants.{MAX_DEPTH}
use Rattle.psa_model.specs.declared.model.Gate.{Gate}
use Rattle.psa_model.specs.declared.model.Model.{Model}
use Rattle.psa_model.specs.Formulas.{has_arity}
use Rattle.psa_model.specs.Truth.{at_gate, within, within_layer, IsResolved}
use Rattle.psa_model.proofs.Levels.{out-gate, within-basic, within-more, gate-stands}
use Rattle.psa_modules.specs.Occurrences.{Occurrence, occurrences, parts_of, put_inside}
use Rattle.psa_modules.specs.OuterModules.{outer_modules}
use Rattle.psa_modules.specs.Quotients.{place_among, with_event, added_event, added_events, added_ids, gates_with_events, model_with_events, with_events}
use Rattle.psa_modules.proofs.ApartLemmas.{IsWithin, outer-is, gate-layer}
use Rattle.psa_modules.proofs.QuotientLemmas.{gates-at, among-none, among-some}
use Rattle.psa_modules.proofs.UnfoldingLemmas.{has-flat_from, parts-within}

-- each of the modules stands
abbrev pub AreGates : Model → List ℕ → Type 0
AreGates model modules = (gate : ℕ) → occurs modules gate ≡ true → gate < length model.gates

-- there is an added event for each module
added-length : (model : Model) (modules : List ℕ) → AreGates model modules
    → length (added_events model modules) ≡ length modules
added-length model [] stand = refl
added-length model (gate ∷ modules) stand =
    let here : gate < length model.gates = stand gate (rw (eqb-same gate) refl) in
    let rest : length (added_events model modules) ≡ length modules =
    added-length model modules (λ g h. stand g (has-occurs (gate ∷ modules) g (inr (occurs-has modules g h)))) in
    elim ((slice_get_cases model.gates gate).1) [
      | inl found ↦ rw found.2 (ap suc rest)
      | inr past ↦ let few : length model.gates ≤ gate = past.0 in absurd (omega arith)
    ]

some-level : (n : ℕ) (model : Model) (f : Formula) → within n model f ≡ true → 0 < n
unfolding within
some-level zero model f h = absurd (false≢true h)
some-level (suc n) model f h = omega arith

-- an added event stands
added-within : (n : ℕ) (model : Model) (modules : List ℕ) (i : ℕ) → AreGates model modules → 0 < n → i < length modules
    → within n (model_with_events modules model) (variant.Basic (record { 0 = length model.basics + i })) ≡ true
added-within n model modules i stand levels less =
    let all : length (model.basics ++ added_events model modules) ≡ length model.basics + length
    (added_events model modules) =
    length-append model.basics (added_events model modules) in
    let added : length (added_events model modules) ≡ length modules = added-length model modules stand in
    within-basic n (model_with_events modules model) (record { 0 = length model.basics + i }) levels
    ∙ lt-ltb (length model.basics + i) (length (model.basics ++ added_events model modules)) (omega arith)

-- the formula of a gate of the quotient, within the levels of the gate's own
with-event-within : (n : ℕ) (model : Model) (modules : List ℕ) (place : ℕ) (gate : Gate) → AreGates model modules
    → within n model gate.formula ≡ true → within n (model_with_events modules model) gate.formula ≡ true
    → within n (model_with_events modules model)
    (with_event gate (place_among (length model.basics) modules place)).formula ≡ true
with-event-within n model modules place gate stand enough same = elim (cases_Bool (occurs modules place)) [
  | inl p ↦
      let among = among-some (length model.basics) modules place p in
      rw among.3 (added-within n model modules among.0 stand (some-level n model gate.formula enough) among.1)
  | inr p ↦ rw (among-none (length model.basics) modules place p) same
]

-- the test of levels of one layer
layer-within : (n : ℕ) (model : Model) (modules : List ℕ) → AreGates model modules
    → ((h : Formula) → within n model h ≡ true → within n (model_with_events modules model) h ≡ true)
    → (layer : Formula-F Formula) → within_layer model (λ g. within n model g) layer ≡ true
    → within_layer (model_with_events modules model) (λ g. within n (model_with_events modules model) g) layer ≡ true
layer-within n model modules stand below (Formula-F.Gate id) h =
    let zeroth : 0 + id.0 ≡ id.0 = omega arith in
    ap (at_gate false (λ g. within n (model_with_events modules model) g))
    (gates-at (length model.basics) modules 0 model.gates id.0)
    ∙ gate-within (slice_get model.gates id.0) h
  where
    gate-within : (found : Option Gate) → at_gate false (λ g. within n model g) found ≡ true
        → at_gate false (λ g. within n (model_with_events modules model) g)
        (option_map (λ gate. with_event gate (place_among (length model.basics) modules (0 + id.0))) found) ≡ true
    gate-within None k = absurd (false≢true k)
    gate-within (Some gate) k = with-event-within n model modules (0 + id.0) gate stand k (below gate.formula k)
layer-within n model modules stand below (Formula-F.Basic id) h =
    let less : id.0 < length model.basics = stands id.0 (length model.basics) h in
    let all : length (model.basics ++ added_events model modules) ≡ length model.basics + length
    (added_events model modules) =
    length-append model.basics (added_events model modules) in
    lt-ltb id.0 (length (model.basics ++ added_events model modules)) (omega arith)
  where
    stands : (i n : ℕ) → nat_lt i n ≡ true → i < n
    stands i n k = grind (arith, nat_tests)
layer-within n model modules stand below (Formula-F.House id) h = h
layer-within n model modules stand below (Formula-F.Constant b) h = h
layer-within n model modules stand below (Formula-F.Connective operator least most arguments) h =
    let p = and_parts (has_arity operator least most (length arguments)) (list_all (λ g. within n model g) arguments) h in
    and_from (has_arity operator least most (length arguments)) (list_all
    (λ g. within n (model_with_events modules model) g) arguments) p.0
    (all-within arguments p.1)
  where
    all-within : (gs : List Formula) → list_all (λ g. within n model g) gs ≡ true
        → list_all (λ g. within n (model_with_events modules model) g) gs ≡ true
    all-within [] k = refl
    all-within (g ∷ gs) k =
        let q = and_parts (within n model g) (list_all (λ f. within n model f) gs) k in
        and_from (within n (model_with_events modules model) g)
        (list_all (λ f. within n (model_with_events modules model) f) gs)
        (below g q.0) (all-within gs q.1)

-- what is within some levels of the model is so in the quotient
pub quotient-within : (n : ℕ) (model : Model) (modules : List ℕ) (f : Formula) → AreGates model modules
    → within n model f ≡ true → within n (model_with_events modules model) f ≡ true
unfolding within
quotient-within zero model modules f stand h = absurd (false≢true h)
quotient-within (suc n) model modules f stand h =
    layer-within n model modules stand (λ g k. quotient-within n model modules g stand k) (out-Formula f) h

-- a gate of the quotient is one of the model, with its event where it is a module
gate-from : (model : Model) (modules : List ℕ) (place : ℕ) (gate : Gate)
    → slice_get (gates_with_events (length model.basics) modules 0 model.gates) place ≡ Some gate
    → (old : Gate) × (slice_get model.gates place ≡ Some old)
    × (gate ≡ with_event old (place_among (length model.basics) modules (0 + place)))
gate-from model modules place gate h =
    from (slice_get model.gates place) (sym (gates-at (length model.basics) modules 0 model.gates place) ∙ h)
  where
    from : (found : Option Gate)
        → option_map (λ g. with_event g (place_among (length model.basics) modules (0 + place))) found ≡ Some gate
        → (old : Gate) × (found ≡ Some old)
        × (gate ≡ with_event old (place_among (length model.basics) modules (0 + place)))
    from None k = absurd (cc)
    from (Some old) k = (old, refl, cc)

same-tree : (gate : Gate) (amid : Option ℕ) → (with_event gate amid).tree ≡ gate.tree
same-tree gate None = refl
same-tree gate (Some basic) = refl

-- the references of a model with events for gates stand
pub resolved-with : (model : Model) (modules : List ℕ) → IsResolved model → AreGates model modules
    → IsResolved (model_with_events modules model)
resolved-with model modules is stand = record {
  gates = λ place gate h.
      let old = gate-from model modules place gate h in
      let enough : within MAX_DEPTH model old.0.formula ≡ true = is.gates place old.0 old.1 in
      subst (λ (g : Gate). within MAX_DEPTH (model_with_events modules model) g.formula ≡ true) (sym old.2)
      (with-event-within MAX_DEPTH model modules (0 + place) old.0 stand enough
      (quotient-within MAX_DEPTH model modules old.0.formula stand enough));
  trees = λ place gate h.
      let old = gate-from model modules place gate h in
      subst (λ (tree : ℕ). tree < length model.fault_trees)
      (ap (λ (t : FaultTreeId). t.0) (sym (same-tree old.0 (place_among (length model.basics) modules (0 + place)))) ∙ ap
      (λ g. g.tree.0) (sym old.2))
      (is.trees place old.0 old.1);
  formulas = λ place formula h. quotient-within MAX_DEPTH model modules formula stand (is.formulas place formula h);
}

-- what stands at a place is within the levels
place-within : (n : ℕ) (model : Model) (f : Formula) (place : Occurrence) → within n model f ≡ true
    → Has (occurrences n model f) place → within n model place.one ≡ true
unfolding occurrences within
place-within zero model f place h has = absurd has
place-within (suc n) model f place h has = elim has [
  | inl e ↦ ap (λ q. within (suc n) model q.one) (sym e) ∙ h
  | inr m ↦
      let found = has-map_from (put_inside f)
      (flat_map (λ g. occurrences n model g) (parts_of model (out-Formula f))) place m in
      let inner = has-flat_from (λ g. occurrences n model g) (parts_of model (out-Formula f)) found.0 found.1 in
      let enough : within n model inner.0 ≡ true =
      parts-within model (λ x. within n model x) (out-Formula f) h inner.0 inner.1 in
      let deep : within n model found.0.one ≡ true = place-within n model inner.0 found.0 enough inner.2 in
      ap (λ q. within (suc n) model q.one) (sym found.2) ∙ within-more n model found.0.one deep
]

-- the test of levels looks at one layer
layer-one : (n : ℕ) (model : Model) (f g : Formula) → out-Formula f ≡ out-Formula g → within n model f ≡ true
    → within n model g ≡ true
unfolding within
layer-one zero model f g same h = h
layer-one (suc n) model f g same h = ap (within_layer model (λ x. within n model x)) (sym same) ∙ h

-- the outer modules of a top event stand
pub outer-stand : (expanded : Expanded) (top : ℕ) → IsWithin expanded.model top
    → AreGates expanded.model (outer_modules expanded top)
outer-stand expanded top enough gate among =
    let outer = outer-is expanded top gate among in
    let place : Occurrence = outer.conditions.at in
    let deep : within (suc MAX_DEPTH) expanded.model place.one ≡ true =
    place-within (suc MAX_DEPTH) expanded.model (variant.Gate (record { 0 = top })) place enough
    outer.conditions.stands in
    gate-stands (suc MAX_DEPTH) expanded.model (record { 0 = gate })
    (layer-one (suc MAX_DEPTH) expanded.model place.one (variant.Gate (record { 0 = gate }))
    (gate-layer gate (out-Formula place.one) outer.conditions.is ∙ sym (out-gate (record { 0 = gate }))) deep)

-- as many gates
pub gates-length : (model : Model) (modules : List ℕ)
    → length (model_with_events modules model).gates ≡ length model.gates
gates-length model modules = with-length (length model.basics) 0 model.gates
  where
    with-length : (added from : ℕ) (gates : List Gate) → length (gates_with_events added modules from gates)
        ≡ length gates
    with-length added from [] = refl
    with-length added from (gate ∷ gates) = ap suc (with-length added (suc from) gates)

-- an event more for each of the modules
pub events-length : (expanded : Expanded) (modules : List ℕ)
    → length (with_events modules expanded).events ≡ length expanded.events + length modules
events-length expanded modules =
    length-append expanded.events (map event.Basic (added_ids (length expanded.model.basics) modules))
    ∙ ap (λ n. length expanded.events + n) (ids-length (length expanded.model.basics) modules)
  where
    ids-length : (from : ℕ) (gates : List ℕ) → length (map event.Basic (added_ids from gates)) ≡ length gates
    ids-length from [] = refl
    ids-length from (gate ∷ gates) = ap suc (ids-length (suc from) gates)
