use Rattle.psa_model.proofs.StandingRanks.{literals-standing}
use Rattle.psa_model.proofs.standing_laws.literals_of_a_product_stand.Goals as goal

pub returns : goal.returns
returns c = literals-standing
