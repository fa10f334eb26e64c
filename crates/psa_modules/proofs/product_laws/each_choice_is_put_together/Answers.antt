use Rattle.psa_modules.proofs.ProductLemmas.{sound-from}
use Rattle.psa_modules.proofs.ChoiceLemmas.{choice-together}
use Rattle.psa_modules.proofs.product_laws.each_choice_is_put_together.Goals as goal

pub returns : goal.returns
returns c = λ analysis top whole puts is stands mode.
    choice-together analysis top whole puts mode (sound-from analysis.expanded top is stands)
