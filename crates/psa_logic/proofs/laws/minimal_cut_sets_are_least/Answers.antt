use Rattle.psa_logic.proofs.MinimalPartLemmas.{minimal-part}
use Rattle.psa_logic.proofs.laws.minimal_cut_sets_are_least.Goals as goal

pub returns-clause-apart : goal.returns-clause-apart
returns-clause-apart c = λ f one other left right h. right.minimal.least one h left.minimal.cuts

pub returns-clause-below : goal.returns-clause-below
returns-clause-below c = minimal-part
