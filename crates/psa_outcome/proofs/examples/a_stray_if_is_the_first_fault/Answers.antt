use Rattle.psa_outcome.proofs.Analysed.{stray-if}
use Rattle.psa_outcome.proofs.examples.a_stray_if_is_the_first_fault.Goals as goal

pub returns : goal.returns
returns c settings = stray-if settings
