use Rattle.psa_model.proofs.TargetProducts.{truth-agree}
use Rattle.psa_model.proofs.laws.ranks_decide_truth.Goals as goal

pub returns : goal.returns
returns c = truth-agree
