use Rattle.psa_model.proofs.ValuesComputed.{third-interval, third-exact, third-value}
use Rattle.psa_model.proofs.examples.third_times_three.Goals as goal

pub returns-clause-interval : goal.returns-clause-interval
returns-clause-interval c = third-interval 997

pub returns-clause-exact : goal.returns-clause-exact
returns-clause-exact c = third-exact 997

pub returns-clause-value : goal.returns-clause-value
returns-clause-value c = third-value
