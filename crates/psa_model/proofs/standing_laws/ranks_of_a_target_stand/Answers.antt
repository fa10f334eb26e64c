use Rattle.psa_model.proofs.StandingRanks.{ranks-standing}
use Rattle.psa_model.proofs.standing_laws.ranks_of_a_target_stand.Goals as goal

pub returns : goal.returns
returns c = ranks-standing
