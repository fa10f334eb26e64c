use Rattle.std.proofs.Common.{rules, ◌≡◌, ◌+◌, ◌++◌, ◌∷◌, [], Ok, Err, sym, subst}
use Rattle.psa_load.specs.Files.{AreRead}
use Rattle.psa_load.proofs.FilesLemmas.{one-more-read, stopped, same-answer}
use Rattle.psa_load.proofs.documents.read_documents.Goals as goal

pub returns-in-Err-clause-answer : goal.returns-in-Err-clause-answer
returns-in-Err-clause-answer g c =
    stopped c.args.names.now c.loop-number.number c.index-names-number.result c.loop-number-test.true c.index-names-number.is
    (g.F.Folder.texts c.args.files.now) (g.F.Folder.rest c.read_document.new.files) c.loop-number.documents c.in-Err.error c.file_error.result
    c.loop-number.invariant.read
    (same-answer (g.F.Folder.texts c.args.files.now) (g.F.Folder.texts c.loop-number.files) c.index-names-number.result c.as_str.result.now (g.F.Folder.rest c.read_document.new.files) (Err c.in-Err.error)
    c.loop-number.invariant.same_texts c.as_str.ensures c.in-Err.ensures.answer)
    c.file_error.ensures

pub loop-number-preserved : goal.loop-number-preserved
loop-number-preserved g c =
    let pushed : c.push.new.self ≡ c.loop-number.documents ++ c.in-Ok.document ∷ [] = search rules in
    record {
      read =
          subst (λ documents. AreRead c.args.names.now (g.F.Folder.texts c.args.files.now) (c.loop-number.number + 1) documents) (sym pushed)
          (one-more-read c.args.names.now c.loop-number.number c.index-names-number.result c.loop-number-test.true c.index-names-number.is
          (g.F.Folder.texts c.args.files.now) (g.F.Folder.rest c.read_document.new.files) c.loop-number.documents c.in-Ok.document c.loop-number.invariant.read
          (same-answer (g.F.Folder.texts c.args.files.now) (g.F.Folder.texts c.loop-number.files) c.index-names-number.result c.as_str.result.now (g.F.Folder.rest c.read_document.new.files) (Ok c.in-Ok.document)
          c.loop-number.invariant.same_texts c.as_str.ensures c.in-Ok.ensures.answer)
          c.in-Ok.ensures.flat c.in-Ok.ensures.small);
      later = search rules;
      opened = search rules;
      counted = search rules;
      same_texts = search rules;
      same_allows = search rules;
    }
