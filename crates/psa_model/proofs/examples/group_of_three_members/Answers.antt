use Rattle.psa_model.proofs.Grouped.{events, values}
use Rattle.psa_model.proofs.examples.group_of_three_members.Goals as goal

pub returns-clause-events : goal.returns-clause-events
returns-clause-events c = events

pub returns-clause-values : goal.returns-clause-values
returns-clause-values c = values
