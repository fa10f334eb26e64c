-- What is read keeps its promise by the law of drafts.
use Rattle.std.proofs.Common.{◌≡◌, map, sym, subst}
use Rattle.std.proofs.lemmas.Result.{IfOk-weaker}
use Rattle.psa_model.specs.declared.draft.Draft.{Draft}
use Rattle.psa_model.specs.Drafts.{IsDraft}
use Rattle.psa_elements.specs.DraftReading.{draft_of}
use Rattle.psa_reader.proofs.DraftPromise.{documents-promised}
use Rattle.psa_reader.proofs.reading.promised_draft.Goals as goal

pub returns-clause-promised : goal.returns-clause-promised
returns-clause-promised c =
    IfOk-weaker c.draft_of_documents.result (λ (draft : Draft). draft ≡ draft_of (map (λ doc. doc.root) c.args.docs.now)) IsDraft
    (λ draft same.
    subst IsDraft (sym same) (documents-promised c.args.docs.now c.requires.shaped c.requires.few c.requires.small c.requires.flat))
    c.draft_of_documents.ensures
