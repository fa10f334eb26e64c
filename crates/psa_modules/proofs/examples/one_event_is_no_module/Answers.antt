use Rattle.psa_modules.proofs.ExampleLemmas.{one_event-outer}
use Rattle.psa_modules.proofs.examples.one_event_is_no_module.Goals as goal

pub returns : goal.returns
returns c = one_event-outer 494
