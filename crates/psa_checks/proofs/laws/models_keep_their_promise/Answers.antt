use Rattle.psa_checks.proofs.ModelPromise.{promised}
use Rattle.psa_checks.proofs.ModelSize.{of-size}
use Rattle.psa_checks.proofs.laws.models_keep_their_promise.Goals as goal

pub returns-clause-model : goal.returns-clause-model
returns-clause-model c = promised

pub returns-clause-size : goal.returns-clause-size
returns-clause-size c = of-size
