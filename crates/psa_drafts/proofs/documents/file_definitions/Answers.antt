use Rattle.std.proofs.Common.{◌≡◌, ◌++◌, List, ap, sym, ◌∙◌}
use Rattle.std.proofs.Common.{subst}
use Rattle.psa_elements.specs.DraftReading as reading
use Rattle.psa_draft_parts.specs.Sayings.{readings_among}
use Rattle.psa_text.specs.declared.tree.Element.{Element}
use Rattle.psa_model.specs.PathNames.{Text}
use Rattle.psa_model.specs.declared.draft.DraftDefinition.{DraftDefinition}
use Rattle.psa_elements.specs.ElementTable.{in_root}
use Rattle.psa_draft_parts.specs.Sayings.{AreReadable}
use Rattle.psa_drafts.proofs.AroundSayings.{file_around}
use Rattle.std.proofs.Common.{OnOk}
use Rattle.psa_drafts.proofs.DocumentSayings.{root-readable, says-file}
use Rattle.psa_drafts.proofs.documents.file_definitions.Goals as goal

pub definitions_in-requires : goal.definitions_in-requires
definitions_in-requires c =
    let P : List Element → Type 0 = λ (es : List Element). AreReadable 1 es in
    subst P (sym c.as_slice-children.ensures) (root-readable c.args.root.now c.requires.few c.requires.short)

pub returns : goal.returns
returns c =
    let P : List DraftDefinition → Type 0 = λ (ds : List DraftDefinition). OnOk c.definitions_in.result
    (c.definitions_in.new.all ≡ ds) in
    subst P (ap (λ (k : List Text). c.args.all.now ++ reading.definitions_in (readings_among in_root (file_around
    c.args.file k) 1 c.as_slice-children.result.now)) c.new.ensures
    ∙ ap (λ (es : List Element). c.args.all.now ++ reading.definitions_in (readings_among in_root
    (reading.whole_file c.args.file) 1 es)) c.as_slice-children.ensures
    ∙ ap (λ (ds : List DraftDefinition). c.args.all.now ++ ds) (sym (says-file c.args.file c.args.root.now)))
    c.definitions_in.ensures.said
