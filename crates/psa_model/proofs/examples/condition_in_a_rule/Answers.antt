use Rattle.psa_model.proofs.Walked.{condition-fault, condition-targets}
use Rattle.psa_model.proofs.examples.condition_in_a_rule.Goals as goal

pub returns-clause-fault : goal.returns-clause-fault
returns-clause-fault c = condition-fault

pub returns-clause-targets : goal.returns-clause-targets
returns-clause-targets c = condition-targets
