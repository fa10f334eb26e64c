use Rattle.psa_modules.specs.OuterModules.{gate_target}
use Rattle.psa_modules.proofs.ProductLemmas.{sound-from, product-within, product-together, together-product}
use Rattle.psa_modules.proofs.product_laws.products_are_put_together.Goals as goal

pub returns : goal.returns
returns c = λ analysis top product is stands mode. (
  λ one. (
    product-within analysis (gate_target top) product mode one,
    product-together analysis top product mode (sound-from analysis.expanded top is stands) one,
  ),
  λ made. together-product analysis top made.1.0 made.1.1 product mode (sound-from analysis.expanded top is stands)
      made.1.2 made.0,
)
