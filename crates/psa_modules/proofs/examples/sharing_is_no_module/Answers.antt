use Rattle.psa_modules.proofs.ExampleLemmas.{sharing-outer}
use Rattle.psa_modules.proofs.examples.sharing_is_no_module.Goals as goal

pub returns : goal.returns
returns c = sharing-outer 494
