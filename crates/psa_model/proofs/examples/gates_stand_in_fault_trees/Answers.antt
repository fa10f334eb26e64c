use Rattle.psa_model.proofs.DraftForms.{gate-is-draft, stray-is-none}
use Rattle.psa_model.proofs.examples.gates_stand_in_fault_trees.Goals as goal

pub returns-clause-whole : goal.returns-clause-whole
returns-clause-whole c = gate-is-draft

pub returns-clause-stray : goal.returns-clause-stray
returns-clause-stray c = stray-is-none
