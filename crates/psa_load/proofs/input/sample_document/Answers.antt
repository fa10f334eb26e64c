use Rattle.std.proofs.Common.{[], Some, ◌∙◌}
use Rattle.psa_text.proofs.TreeSizes.{tree_depth, tree_elements}
use Rattle.psa_outcome.specs.Causes.{sample_name}
use Rattle.psa_load.specs.Documents.{text_error}
use Rattle.psa_load.specs.Samples.{sample_files}
use Rattle.psa_load.proofs.ReadingLemmas.{passed-on}
use Rattle.psa_load.proofs.SampleLemmas.{sample-fault, sample-end, sample-tree}
use Rattle.psa_load.proofs.input.sample_document.Goals as goal

pub returns-in_err-feed-clause-answer : goal.returns-in_err-feed-clause-answer
returns-in_err-feed-clause-answer c rest =
    passed-on sample_name (Some (sample_files c.args.n)) rest (text_error c.in_err-feed.field-0.0) c.from_residual-in_err-feed.result c.from_residual-in_err-feed.ensures.1
    (sample-fault c.args.n rest c.as_bytes.result.now (c.as_bytes.ensures ∙ c.in_ok-text.ensures) c.in_err-feed.field-0.0 c.feed.new.self (c.in_err-feed.ensures.read [] c.new-scanner.ensures))

pub returns-in_err-finish-clause-answer : goal.returns-in_err-finish-clause-answer
returns-in_err-finish-clause-answer c rest =
    passed-on sample_name (Some (sample_files c.args.n)) rest (text_error c.in_err-finish.field-0.0) c.from_residual-in_err-finish.result c.from_residual-in_err-finish.ensures.1
    (sample-end c.args.n rest c.as_bytes.result.now (c.as_bytes.ensures ∙ c.in_ok-text.ensures) c.in_err-finish.field-0.0
    (c.in_err-finish.ensures.read c.as_bytes.result.now (c.in_ok-feed.ensures.read [] c.new-scanner.ensures).0))

pub returns-clause-answer : goal.returns-clause-answer
returns-clause-answer c rest =
    sample-tree c.args.n rest c.as_bytes.result.now (c.as_bytes.ensures ∙ c.in_ok-text.ensures) c.in_ok-finish.field-0
    (c.in_ok-finish.ensures.read c.as_bytes.result.now (c.in_ok-feed.ensures.read [] c.new-scanner.ensures).0)

pub returns-clause-flat : goal.returns-clause-flat
returns-clause-flat c =
    tree_depth c.as_bytes.result.now c.in_ok-finish.field-0.root
    (c.in_ok-finish.ensures.read c.as_bytes.result.now (c.in_ok-feed.ensures.read [] c.new-scanner.ensures).0).0

pub returns-clause-small : goal.returns-clause-small
returns-clause-small c =
    let ends = c.in_ok-finish.ensures.read c.as_bytes.result.now (c.in_ok-feed.ensures.read [] c.new-scanner.ensures).0 in
    tree_elements c.as_bytes.result.now c.in_ok-finish.field-0.root ends.0 ends.1
