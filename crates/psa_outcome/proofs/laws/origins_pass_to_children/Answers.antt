use Rattle.psa_outcome.proofs.OriginLemmas.{high-origin, low-origin}
use Rattle.psa_outcome.proofs.laws.origins_pass_to_children.Goals as goal

pub returns-clause-high : goal.returns-clause-high
returns-clause-high c analysis target ns id n child fit here there o = high-origin analysis target ns fit id n child here there o

pub returns-clause-low : goal.returns-clause-low
returns-clause-low c analysis target ns id n child fit here there o = low-origin analysis target ns fit id n child here there o
