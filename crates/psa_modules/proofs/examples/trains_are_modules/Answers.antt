use Rattle.std.proofs.Common.{ap}
use Rattle.std.specs.Prelude.{drop, map}
use Rattle.psa_model.specs.Names.{event_text}
use Rattle.psa_modules.specs.ModuleExamples.{trains}
use Rattle.psa_modules.specs.Quotients.{with_events}
use Rattle.psa_modules.proofs.ExampleLemmas.{trains-outer}
use Rattle.psa_modules.proofs.examples.trains_are_modules.Goals as goal

pub returns-clause-modules : goal.returns-clause-modules
returns-clause-modules c = trains-outer 494

pub returns-clause-events : goal.returns-clause-events
returns-clause-events c =
    ap (λ modules. map (event_text (with_events modules trains).model) (drop 4 (with_events modules trains).events))
    (trains-outer 494)
