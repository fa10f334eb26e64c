use Rattle.psa_modules.proofs.BasicsLemmas.{of-basics}
use Rattle.psa_modules.proofs.product_laws.expansions_of_models.Goals as goal

pub returns : goal.returns
returns c = λ on model is. record { resolved = is.resolved; basics = of-basics on model is }
