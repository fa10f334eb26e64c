use Rattle.psa_logic.proofs.PartLemmas.{occurs-has, has-occurs, sets-same}
use Rattle.psa_logic.proofs.laws.sets_are_their_members.Goals as goal

pub returns-clause-members : goal.returns-clause-members
returns-clause-members c = λ set x. (occurs-has set x, has-occurs set x)

pub returns-clause-same : goal.returns-clause-same
returns-clause-same c = sets-same
