use Rattle.psa_modules.specs.OuterModules.{outer_modules}
use Rattle.psa_modules.proofs.ProductLemmas.{sound-from}
use Rattle.psa_modules.proofs.ResolvedLemmas.{resolved-with, outer-stand, gates-length, events-length}
use Rattle.psa_modules.proofs.product_laws.quotients_are_resolved.Goals as goal

pub returns-clause-resolved : goal.returns-clause-resolved
returns-clause-resolved c = λ expanded top is stands.
    resolved-with expanded.model (outer_modules expanded top) is.resolved
    (outer-stand expanded top (sound-from expanded top is stands).enough)

pub returns-clause-gates : goal.returns-clause-gates
returns-clause-gates c = λ expanded top. gates-length expanded.model (outer_modules expanded top)

pub returns-clause-events : goal.returns-clause-events
returns-clause-events c = λ expanded top. events-length expanded (outer_modules expanded top)
