use Rattle.std.proofs.Common.{refl}
use Rattle.psa_whatif.specs.EditText.{script_from}
use Rattle.psa_whatif.proofs.examples.members_and_quantities.Goals as goal

pub returns-clause-without_quantities : goal.returns-clause-without_quantities
unfolding script_from
returns-clause-without_quantities c = refl

pub returns-clause-state_without : goal.returns-clause-state_without
unfolding script_from
returns-clause-state_without c = refl

pub returns-clause-member : goal.returns-clause-member
unfolding script_from
returns-clause-member c = refl
