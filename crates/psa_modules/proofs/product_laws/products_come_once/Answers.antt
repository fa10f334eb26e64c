use Rattle.psa_modules.proofs.ProductLemmas.{sound-from, whole-one, puts-one}
use Rattle.psa_modules.proofs.product_laws.products_come_once.Goals as goal

pub returns-clause-whole : goal.returns-clause-whole
returns-clause-whole c = λ analysis top one other puts others product is stands mode.
    whole-one analysis top one other puts others product mode (sound-from analysis.expanded top is stands)

pub returns-clause-puts : goal.returns-clause-puts
returns-clause-puts c = λ analysis top whole puts others product is stands mode.
    puts-one analysis top whole puts others product mode (sound-from analysis.expanded top is stands)
