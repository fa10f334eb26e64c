use Rattle.psa_text.proofs.OneOutcome.{each_read, reads_once}
use Rattle.psa_text.proofs.laws.each_text_has_one_outcome.Goals as goal

pub returns-clause-exists : goal.returns-clause-exists
returns-clause-exists c = each_read

pub returns-clause-unique : goal.returns-clause-unique
returns-clause-unique c = reads_once
