use Rattle.psa_text.proofs.OneOutcome.{each_read, reads_once}
use Rattle.psa_outcome.proofs.OutcomeLemmas.{outcomes-same, some-outcome}
use Rattle.psa_outcome.proofs.laws.inputs_have_one_outcome.Goals as goal

pub returns-clause-once : goal.returns-clause-once
returns-clause-once c settings names told one other p q = outcomes-same reads_once told settings names one other p q

pub returns-clause-some : goal.returns-clause-some
returns-clause-some c settings names told all = some-outcome each_read told settings names all
