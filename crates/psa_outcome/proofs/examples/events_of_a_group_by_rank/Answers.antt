use Rattle.psa_outcome.proofs.RankedGroup.{ranked, named}
use Rattle.psa_outcome.proofs.examples.events_of_a_group_by_rank.Goals as goal

pub returns-clause-ranks : goal.returns-clause-ranks
returns-clause-ranks c = ranked

pub returns-clause-names : goal.returns-clause-names
returns-clause-names c = named
