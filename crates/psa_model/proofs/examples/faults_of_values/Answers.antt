use Rattle.psa_model.proofs.ValuesComputed.{missing-fault, divisor-fault, above-fault}
use Rattle.psa_model.proofs.examples.faults_of_values.Goals as goal

pub returns-clause-missing : goal.returns-clause-missing
returns-clause-missing c = missing-fault

pub returns-clause-divisor : goal.returns-clause-divisor
returns-clause-divisor c = divisor-fault

pub returns-clause-above : goal.returns-clause-above
returns-clause-above c = above-fault
