use Rattle.std.proofs.Common.{sym, subst}
use Rattle.psa_model.specs.declared.settings.Input.{Input}
use Rattle.psa_outcome.specs.Causes.{names_of, told_of}
use Rattle.psa_load.specs.Files.{FilesAnswer}
use Rattle.psa_load.proofs.input.input_documents.Goals as goal

pub returns-in-Sample-clause-answer : goal.returns-in-Sample-clause-answer
returns-in-Sample-clause-answer g c =
    subst (λ (input : Input). FilesAnswer (names_of input) (told_of input (g.F.Folder.texts c.args.files.now)) (g.F.Folder.rest c.args.files.now) c.sample_documents.result)
    (sym c.in-Sample.is) (c.sample_documents.ensures.answer (g.F.Folder.rest c.args.files.now))
