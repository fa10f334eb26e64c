use Rattle.std.proofs.Common.{[], ◌∷◌, List, Some, refl, sym, subst, arith}
use Rattle.std.specs.List.{AllZip}
use Rattle.psa_text.specs.declared.tree.Document.{Document}
use Rattle.psa_outcome.specs.Causes.{sample_name}
use Rattle.psa_outcome.specs.Inputs.{HasTree}
use Rattle.psa_load.specs.Files.{roots_of}
use Rattle.psa_load.specs.Samples.{sample_files}
use Rattle.psa_load.proofs.FilesLemmas.{none-read, stopped}
use Rattle.psa_load.proofs.input.sample_documents.Goals as goal

pub returns-in-Ok-alone-clause-answer : goal.returns-in-Ok-alone-clause-answer
returns-in-Ok-alone-clause-answer c rest =
    subst (λ (documents : List Document). AllZip (HasTree (sample_files c.args.n)) (sample_name ∷ []) (roots_of documents)) (sym c.in-Ok-alone.ensures)
    (c.in-Ok.ensures.answer rest, tt)

pub returns-in-Err-clause-answer : goal.returns-in-Err-clause-answer
returns-in-Err-clause-answer c rest =
    stopped (sample_name ∷ []) 0 sample_name (omega arith) refl (Some (sample_files c.args.n)) rest [] c.in-Err.error c.file_error.result
    (none-read (sample_name ∷ []) (Some (sample_files c.args.n))) (c.in-Err.ensures.answer rest) c.file_error.ensures
