use Rattle.std.proofs.Common.{◌*◌}
use Rattle.psa_logic.specs.Sets.{occurs}
use Rattle.psa_logic.proofs.LiteralLemmas.{consistent-holds, holds-consistent}
use Rattle.psa_logic.proofs.laws.consistent_products_hold.Goals as goal

pub returns : goal.returns
returns c = λ product h. (λ k. (λ rank. occurs product (2 * rank), consistent-holds product k), λ somewhere. holds-consistent somewhere.0 product h somewhere.1)
