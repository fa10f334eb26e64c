use Rattle.psa_model.proofs.ValuesComputed.{small-value, exponential-value}
use Rattle.psa_model.proofs.examples.small_values.Goals as goal

pub returns-clause-number : goal.returns-clause-number
returns-clause-number c = small-value

pub returns-clause-exponential : goal.returns-clause-exponential
returns-clause-exponential c = exponential-value
