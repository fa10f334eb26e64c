-- What stands in the example drafts.
use Rattle.std.proofs.Common.{◌≡◌, ℕ, true, List, [], ◌∷◌, ◌++◌, map, refl, sym, ap, ◌∙◌, arith}
use Rattle.std.proofs.lemmas.Bool.{false≢true}
use Rattle.std.proofs.lemmas.List.Elements.{All-from_recursion}
use Rattle.psa_model.specs.declared.draft.DraftDefinition.{DraftDefinition}
use Rattle.psa_model.specs.declared.draft.DraftFormula.{DraftFormula, map-DraftFormula}
use Rattle.psa_model.specs.declared.draft.DraftFormula.TheOpen.{DraftFormula-F}
use Rattle.psa_model.specs.declared.draft.DraftFormula.TheFolds.{fold-DraftFormula, fold-roll-DraftFormula}
use Rattle.psa_model.specs.declared.draft.DraftFormula.TheVariants as formula
use Rattle.psa_model.specs.declared.draft.DraftReference.{DraftReference}
use Rattle.psa_model.specs.declared.draft.EventKind.{EventKind}
use Rattle.psa_model.specs.declared.formula.Connective.{Connective}
use Rattle.psa_model.specs.DraftExample.{gate_draft, stray_draft}
use Rattle.psa_model.specs.Drafts.{IsDraft, Contents, contents_of, formula_step, has_body, are_apart, position_of, reference_position}

at-event : (asked : EventKind) (reference : DraftReference) → fold-DraftFormula Contents formula_step (formula.Event asked reference) ≡ formula_step (DraftFormula-F.Event asked reference)
at-event asked reference =
    ap (fold-DraftFormula Contents formula_step) (sym (formula.rolls-Event asked reference)) ∙ fold-roll-DraftFormula Contents formula_step (DraftFormula-F.Event asked reference)

at-connective : (operator : Connective) (least most : ℕ) (arguments : List DraftFormula) → fold-DraftFormula Contents formula_step (formula.Connective operator least most arguments) ≡ formula_step (map-DraftFormula DraftFormula Contents (fold-DraftFormula Contents formula_step) (DraftFormula-F.Connective operator least most arguments))
at-connective operator least most arguments =
    ap (fold-DraftFormula Contents formula_step) (sym (formula.rolls-Connective operator least most arguments))
    ∙ fold-roll-DraftFormula Contents formula_step (DraftFormula-F.Connective operator least most arguments)

gate-contents : contents_of gate_draft ≡ record { nesting = 2; has_numbers = true; references = record { name = 97 ∷ []; place = record { file = 0; line = 3 }; tag = 4 } ∷ record { name = 98 ∷ []; place = record { file = 0; line = 3 }; tag = 5 } ∷ []; paths = []; formulas = 0 }
gate-contents = simp (at-event, at-connective) refl

-- a gate in its fault tree makes a draft
pub gate-is-draft : IsDraft gate_draft
gate-is-draft = record {
  bodies = All-from_recursion (λ (definition : DraftDefinition). has_body definition.kind definition.body ≡ true) gate_draft.definitions (refl, (refl, (refl, (refl, tt))));
  containers = refl;
  numbers = ap (λ (c : Contents). c.has_numbers) gate-contents;
  shallow = let nested = ap (λ (c : Contents). c.nesting) gate-contents in omega (arith, nested);
  ascending = refl;
  references_apart = ap (λ (c : Contents). are_apart (map reference_position c.references)) gate-contents;
  definitions_apart = ap (λ (c : Contents). are_apart (map position_of gate_draft.definitions ++ c.paths)) gate-contents;
  few = let collected = ap (λ (c : Contents). c.formulas) gate-contents in omega (arith, collected);
}

-- a gate without its fault tree makes none
pub stray-is-none : IsDraft stray_draft → ⊥
stray-is-none draft = false≢true draft.containers
