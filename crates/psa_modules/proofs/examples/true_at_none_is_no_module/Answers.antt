use Rattle.psa_modules.proofs.ExampleLemmas.{true_at_none-outer}
use Rattle.psa_modules.proofs.examples.true_at_none_is_no_module.Goals as goal

pub returns : goal.returns
returns c = true_at_none-outer 494
