use Rattle.psa_names.proofs.ChainLemmas.{within-more}
use Rattle.psa_names.proofs.laws.more_levels_change_nothing.Goals as goal

pub returns : goal.returns
returns c = within-more
