use Rattle.psa_modules.proofs.ProductLemmas.{sound-from}
use Rattle.psa_modules.proofs.WayLemmas.{keeps-ways, ways-keep}
use Rattle.psa_modules.proofs.product_laws.modules_stand_on_every_way.Goals as goal

pub returns : goal.returns
returns c = λ expanded top gate is stands. (
  keeps-ways expanded top gate (sound-from expanded top is stands).enough,
  ways-keep expanded top gate,
)
