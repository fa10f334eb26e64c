-- How an event opens as a form of formula.
use Rattle.std.proofs.Common.{◌≡◌, sym, ap, ◌∙◌}
use Rattle.psa_model.specs.declared.draft.DraftReference.{DraftReference}
use Rattle.psa_model.specs.declared.draft.EventKind.{EventKind}
use Rattle.psa_model.specs.declared.draft.DraftFormula.TheOpen.{DraftFormula-F}
use Rattle.psa_model.specs.declared.draft.DraftFormula.TheVariants as formula
use Rattle.psa_model.specs.declared.draft.DraftFormula.TheViews.{out-DraftFormula, out-roll-DraftFormula}

pub out-event : (its : EventKind) (name : DraftReference) → out-DraftFormula (formula.Event its name) ≡ DraftFormula-F.Event its name
out-event its name = ap out-DraftFormula (sym (formula.rolls-Event its name)) ∙ out-roll-DraftFormula (DraftFormula-F.Event its name)
