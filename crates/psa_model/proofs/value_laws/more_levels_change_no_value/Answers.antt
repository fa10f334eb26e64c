use Rattle.psa_model.proofs.ValueLevels.{within-more, exact-more, interval-more}
use Rattle.psa_model.proofs.value_laws.more_levels_change_no_value.Goals as goal

pub returns-clause-within : goal.returns-clause-within
returns-clause-within c = within-more

pub returns-clause-exact : goal.returns-clause-exact
returns-clause-exact c = exact-more

pub returns-clause-interval : goal.returns-clause-interval
returns-clause-interval c = interval-more
