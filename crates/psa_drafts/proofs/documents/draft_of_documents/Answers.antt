use Rattle.std.proofs.Common.{◌++◌, arith, List, ap, sym, ◌∙◌}
use Rattle.psa_elements.specs.DraftReading as reading
use Rattle.std.proofs.Common.{map}
use Rattle.psa_text.specs.TreeSize.{elements_in}
use Rattle.psa_text.specs.declared.tree.Document.{Document}
use Rattle.psa_model.specs.declared.draft.DraftDefinition.{DraftDefinition}
use Rattle.psa_drafts.proofs.DocumentSayings.{short-doc, files-more, size-as}
use Rattle.psa_drafts.proofs.ShortNumbers.{short-roots}
use Rattle.psa_drafts.proofs.documents.draft_of_documents.Goals as goal

pub file_definitions-requires-clause-short : goal.file_definitions-requires-clause-short
file_definitions-requires-clause-short c =
    short-doc c.args.docs.now c.loop-place.place c.index-docs-place.result c.loop-place-test.true
    c.index-docs-place.is (short-roots (map (λ (d : Document). d.root) c.args.docs.now) c.requires.shaped)

pub file_definitions-requires-clause-few : goal.file_definitions-requires-clause-few
file_definitions-requires-clause-few c =
    let small = c.requires.small c.loop-place.place c.index-docs-place.result c.loop-place-test.true in
    let same = ap (λ (d : Document). elements_in d.root) c.index-docs-place.is in
    omega (arith, small, same, size-as c.index-docs-place.result.root)

pub loop-place-preserved : goal.loop-place-preserved
loop-place-preserved c =
    c.in_ok-file_definitions.ensures ∙ ap (λ (ds : List DraftDefinition). ds ++ reading.file_definitions
    (c.loop-place.place, c.index-docs-place.result.root)) c.loop-place.invariant ∙ sym (files-more
    c.args.docs.now c.loop-place.place c.index-docs-place.result c.loop-place-test.true c.index-docs-place.is)
