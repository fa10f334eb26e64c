use Rattle.psa_modules.proofs.ExampleLemmas.{nested-inner, nested-outer}
use Rattle.psa_modules.proofs.examples.nested_modules.Goals as goal

pub returns-clause-inner : goal.returns-clause-inner
returns-clause-inner c = nested-inner 494

pub returns-clause-outer : goal.returns-clause-outer
returns-clause-outer c = nested-outer 494
