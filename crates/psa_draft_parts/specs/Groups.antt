-- The members that elements name.
use Rattle.std.specs.Prelude.{List}
use Rattle.std.specs.List.{flat_map}
use Rattle.psa_model.specs.declared.draft.DraftReference.{DraftReference}
use Rattle.psa_model.specs.declared.draft.DraftFormula.TheViews.{out-DraftFormula}
use Rattle.psa_elements.specs.DraftReading.{Reading, formulas_in, references_of}

abbrev pub members_in : List Reading → List DraftReference
members_in inside = flat_map (λ one. references_of (out-DraftFormula one)) (formulas_in inside)
