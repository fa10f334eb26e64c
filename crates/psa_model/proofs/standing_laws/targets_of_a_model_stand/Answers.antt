use Rattle.psa_model.proofs.StandingTargets.{targets-standing}
use Rattle.psa_model.proofs.standing_laws.targets_of_a_model_stand.Goals as goal

pub returns : goal.returns
returns c = targets-standing
