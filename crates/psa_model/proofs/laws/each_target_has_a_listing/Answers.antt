use Rattle.psa_model.proofs.TargetProducts.{target-listing}
use Rattle.psa_model.proofs.laws.each_target_has_a_listing.Goals as goal

pub returns : goal.returns
returns c = target-listing
