-- The event that an element refers to: of a kind, or for `Any` of the kind that its type says.
use Rattle.psa_model.specs.declared.draft.EventKind.{EventKind}
use Rattle.psa_model.specs.declared.draft.EventKind.TheVariants.{Any}
use Rattle.psa_model.specs.declared.draft.DraftFormula.{DraftFormula}
use Rattle.psa_model.specs.declared.draft.DraftFormula.TheVariants.{Event}
use Rattle.psa_elements.specs.DraftReading.{StartTag, event_kind, reference}

abbrev pub event_as : EventKind → StartTag → DraftFormula
event_as Any start = Event (event_kind start) (reference start)
event_as kind start = Event kind (reference start)
