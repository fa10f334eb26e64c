use Rattle.psa_model.proofs.Walked.{tree-fault, tree-targets}
use Rattle.psa_model.proofs.examples.event_tree_with_a_link.Goals as goal

pub returns-clause-fault : goal.returns-clause-fault
returns-clause-fault c = tree-fault

pub returns-clause-targets : goal.returns-clause-targets
returns-clause-targets c = tree-targets
