use Rattle.psa_modules.proofs.CountLemmas.{module-ranks, quotient-ranks}
use Rattle.psa_modules.proofs.ProductLemmas.{sound-from}
use Rattle.psa_modules.proofs.product_laws.quotients_have_fewer_ranks.Goals as goal

pub returns-clause-quotient : goal.returns-clause-quotient
returns-clause-quotient c = λ expanded top is stands. quotient-ranks expanded top (sound-from expanded top is stands)

pub returns-clause-modules : goal.returns-clause-modules
returns-clause-modules c = λ expanded top gate is stands.
    module-ranks expanded top gate (sound-from expanded top is stands)
