use Rattle.psa_names.proofs.Conditions.{condition, unknown_functional_event}
use Rattle.psa_names.proofs.examples.a_condition_names_a_functional_event.Goals as goal

pub returns-clause-found : goal.returns-clause-found
returns-clause-found c = condition

pub returns-clause-unknown : goal.returns-clause-unknown
returns-clause-unknown c = unknown_functional_event
