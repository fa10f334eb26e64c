-- The outcomes of the worked inputs, step by step.
use Rattle.std.proofs.Common.{◌≡◌, ℕ, suc, ◌∷◌, [], Bool, true, false, List, Option, Some, None, Result, if◌then◌else◌, refl, sym, ap, ◌∙◌}
use Rattle.std.specs.Prelude.{Ok, Err, codes, map, ◌==◌}
use Rattle.psa_number.specs.Scaled.{Scaled}
use Rattle.psa_text.specs.declared.tree.Element.TheFolds.{fold-roll-Element}
use Rattle.psa_model.specs.declared.expanded.Expanded.{Expanded}
use Rattle.psa_model.specs.declared.fault.FaultKind.TheVariants.{UnknownElement}
use Rattle.psa_model.specs.declared.fault.ModelFault.{ModelFault}
use Rattle.psa_model.specs.declared.formula.Formula.{Formula}
use Rattle.psa_model.specs.declared.formula.Formula.TheOpen.{Formula-F}
use Rattle.psa_model.specs.declared.formula.Formula.TheFolds.{fold-Formula, fold-roll-Formula}
use Rattle.psa_model.specs.declared.formula.Formula.TheViews.{out-Formula, out-roll-Formula}
use Rattle.psa_model.specs.declared.formula.Formula.TheVariants as formula
use Rattle.psa_model.specs.declared.ids.EventId.{EventId}
use Rattle.psa_model.specs.declared.ids.GateId.{GateId}
use Rattle.psa_model.specs.declared.settings.Settings.{Settings}
use Rattle.psa_model.specs.Expansion.{expanded_of}
use Rattle.psa_model.specs.PathFaults.{walk_fault}
use Rattle.psa_model.specs.PathTargets.{targets_of}
use Rattle.psa_model.specs.Ranks.{visits, visits_layer}
use Rattle.psa_model.specs.Targets.{refers_step}
use Rattle.psa_model.specs.Values.{values_of}
use Rattle.psa_elements.specs.DraftReading.{ElementReading, reading_layer, draft_of}
use Rattle.psa_elements.specs.ExampleTrees.{stray_if}
use Rattle.psa_elements.specs.ShapeFaults.{ElementFaults, faults_layer, shape_fault}
use Rattle.psa_model.specs.declared.draft.EventKind.TheVariants as asked-kind
use Rattle.psa_names.specs.Chains.{leads, is_within}
use Rattle.psa_names.specs.NameFaults.{first_fault, name_fault}
use Rattle.psa_names.specs.Outlines as reference
use Rattle.psa_names.specs.Outlines.{Outline, Entries, naming, formula_layer, entries_of}
use Rattle.psa_names.proofs.Forms.{at-event}
use Rattle.psa_outcome.specs.Analyses.{unless, with_values, with_quantities, analysis_of_model, analysis_of_draft, analysis_of}
use Rattle.psa_outcome.specs.AnalysisExample.{first_line, no_value_tree, no_value_draft, no_value_model, no_value_fault}
use Rattle.psa_model.specs.RankFaults.{rank_fault}
use Rattle.psa_names.specs.ModelOfDraft.{model_from, model_of}
use Rattle.psa_model.specs.Quantities.{has_quantities}
use Rattle.psa_model.specs.Report.{Analysis}

-- a step that found a fault is the last, and one that found none gives way to the next
stops : {A : Type 0} (found : Option ModelFault) (later : Unit {0} → Result A ModelFault) (fault : ModelFault) → found ≡ Some fault → unless found later ≡ Err fault
stops found later fault p = ap (λ f. unless f later) p

goes-on : {A : Type 0} (found : Option ModelFault) (later : Unit {0} → Result A ModelFault) → found ≡ None → unless found later ≡ later tt
goes-on found later p = ap (λ f. unless f later) p

-- ---- the stray `if`

if-fault : shape_fault (stray_if ∷ []) ≡ Some (record { kind = UnknownElement; file = 0; line = 1; name = codes "if" })
if-fault = simp (fold-roll-Element ElementFaults (faults_layer 0)) refl

-- a stray `if` is the first fault
pub stray-if : (settings : Settings) → analysis_of settings (stray_if ∷ []) ≡ Err (record { kind = UnknownElement; file = 0; line = 1; name = codes "if" })
stray-if settings =
    stops (shape_fault (stray_if ∷ [])) (λ u. analysis_of_draft settings (draft_of (stray_if ∷ [])))
    (record { kind = UnknownElement; file = 0; line = 1; name = codes "if" }) if-fault

-- ---- the event without an expression

shape : shape_fault (no_value_tree ∷ []) ≡ None
shape = simp (fold-roll-Element ElementFaults (faults_layer 0)) refl

drafted : draft_of (no_value_tree ∷ []) ≡ no_value_draft
drafted = simp (fold-roll-Element ElementReading reading_layer) refl

walked : walk_fault no_value_model ≡ None
walked = refl

refers-basic : (gate : ℕ) (id : EventId) → fold-Formula Bool (refers_step gate) (formula.Basic id) ≡ refers_step gate (Formula-F.Basic id)
refers-basic gate id =
    ap (fold-Formula Bool (refers_step gate)) (sym (formula.rolls-Basic id)) ∙ fold-roll-Formula Bool (refers_step gate) (Formula-F.Basic id)

pub visits-suc : (levels : ℕ) (expanded : Expanded) (f : Formula) → visits (suc levels) expanded f ≡ visits_layer expanded (λ g. visits levels expanded g) (out-Formula f)
unfolding visits
visits-suc levels expanded f = refl

pub out-gate : (id : GateId) → out-Formula (formula.Gate id) ≡ Formula-F.Gate id
out-gate id = ap out-Formula (sym (formula.rolls-Gate id)) ∙ out-roll-Formula (Formula-F.Gate id)

pub out-basic : (id : EventId) → out-Formula (formula.Basic id) ≡ Formula-F.Basic id
out-basic id = ap out-Formula (sym (formula.rolls-Basic id)) ∙ out-roll-Formula (Formula-F.Basic id)

visited : (n : ℕ) (ccf : Bool) → visits (suc (suc n)) (expanded_of ccf no_value_model) (formula.Gate (record { 0 = 0 })) ≡ 0 ∷ []
visited n ccf = simp (visits-suc, out-gate, out-basic) refl

ranked : (ccf : Bool) → rank_fault (expanded_of ccf no_value_model) (targets_of no_value_model) ≡ None
ranked ccf = simp (refers-basic, visited 499 ccf) refl

valued : (mission : Scaled) (ccf : Bool) → values_of mission (expanded_of ccf no_value_model) ≡ Err no_value_fault
valued mission ccf = refl

-- the draft laid out: the gate's formula is one name
abbrev laid-out-entries : Entries
laid-out-entries = map (λ one. record { definition = one; outlines = outlines-in one.tag; states = [] }) no_value_draft.definitions
  where
    outlines-in : ℕ → List Outline
    outlines-in tag =
        if tag == 2 then naming (reference.event asked-kind.Basic) (record { name = codes "a"; place = first_line; tag = 3 }) [] ∷ [] else []

laid-out : entries_of no_value_draft ≡ laid-out-entries
laid-out = simp (at-event formula_layer) refl

no-name-fault : first_fault laid-out-entries ≡ None
unfolding leads is_within
no-name-fault = refl

modelled-entries : model_from laid-out-entries ≡ no_value_model
modelled-entries = simp (at-event) refl

unnamed : name_fault no_value_draft ≡ None
unnamed = ap first_fault laid-out ∙ no-name-fault

modelled : model_of no_value_draft ≡ no_value_model
modelled = ap model_from laid-out ∙ modelled-entries

-- what is left to compute of the input
left : (settings : Settings) → analysis_of settings (no_value_tree ∷ []) ≡ with_quantities settings (expanded_of settings.ccf no_value_model)
left settings =
    goes-on (shape_fault (no_value_tree ∷ [])) (λ u. analysis_of_draft settings (draft_of (no_value_tree ∷ []))) shape
    ∙ ap (analysis_of_draft settings) drafted
    ∙ goes-on (name_fault no_value_draft) (λ u. analysis_of_model settings (model_of no_value_draft)) unnamed
    ∙ ap (analysis_of_model settings) modelled
    ∙ goes-on (rank_fault (expanded_of settings.ccf no_value_model) (targets_of no_value_model)) (λ u. with_quantities settings (expanded_of settings.ccf no_value_model)) (ranked settings.ccf)

abbrev chosen : Settings → Bool → Result Analysis ModelFault
chosen settings has =
    if has then with_values settings (expanded_of settings.ccf no_value_model) (values_of settings.mission (expanded_of settings.ccf no_value_model))
    else Ok (record { settings = settings; expanded = expanded_of settings.ccf no_value_model; values = None })

-- where quantities are asked for, an event without a value is a fault
pub asked : (settings : Settings) → has_quantities settings ≡ true → analysis_of settings (no_value_tree ∷ []) ≡ Err no_value_fault
asked settings has =
    left settings ∙ ap (chosen settings) has
    ∙ ap (with_values settings (expanded_of settings.ccf no_value_model)) (valued settings.mission settings.ccf)

-- where none are asked for, it is none
pub not-asked : (settings : Settings) → has_quantities settings ≡ false → analysis_of settings (no_value_tree ∷ []) ≡ Ok (record { settings = settings; expanded = expanded_of settings.ccf no_value_model; values = None })
not-asked settings has = left settings ∙ ap (chosen settings) has
