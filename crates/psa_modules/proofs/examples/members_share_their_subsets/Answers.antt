use Rattle.psa_modules.proofs.ExampleLemmas.{members-outer, subsets-outer}
use Rattle.psa_modules.proofs.examples.members_share_their_subsets.Goals as goal

pub returns-clause-apart : goal.returns-clause-apart
returns-clause-apart c = members-outer 494

pub returns-clause-expanded : goal.returns-clause-expanded
returns-clause-expanded c = subsets-outer 494
