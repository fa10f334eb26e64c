use Rattle.psa_text.proofs.OneOutcome.{reads_once}
use Rattle.psa_outcome.proofs.OutcomeLemmas.{reports-same}
use Rattle.psa_outcome.proofs.laws.inputs_have_one_report.Goals as goal

pub returns : goal.returns
returns c settings names told one other text more p q x y = reports-same reads_once told settings names one other text more p q x y
