use Rattle.psa_logic.proofs.LiteralLemmas.{prime-part}
use Rattle.psa_logic.proofs.laws.prime_implicants_are_least.Goals as goal

pub returns : goal.returns
returns c = prime-part
