use Rattle.psa_model.proofs.TargetProducts.{product-has_ranks}
use Rattle.psa_model.proofs.laws.products_hold_ranks.Goals as goal

pub returns : goal.returns
returns c = product-has_ranks
