use Rattle.psa_modules.proofs.ExampleLemmas.{under_and-outer, under_xor-outer}
use Rattle.psa_modules.proofs.examples.under_exclusive_or_is_no_module.Goals as goal

pub returns-clause-and : goal.returns-clause-and
returns-clause-and c = under_and-outer 494

pub returns-clause-xor : goal.returns-clause-xor
returns-clause-xor c = under_xor-outer 494
