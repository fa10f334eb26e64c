use Rattle.psa_model.proofs.ModelForms.{group-is-model, group-is-of-size}
use Rattle.psa_model.proofs.model_laws.group_is_a_model.Goals as goal

pub returns-clause-model : goal.returns-clause-model
returns-clause-model c = group-is-model

pub returns-clause-size : goal.returns-clause-size
returns-clause-size c = group-is-of-size
