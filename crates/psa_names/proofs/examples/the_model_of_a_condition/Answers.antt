use Rattle.psa_names.proofs.Modelled.{condition}
use Rattle.psa_names.proofs.examples.the_model_of_a_condition.Goals as goal

pub returns : goal.returns
returns c = condition
