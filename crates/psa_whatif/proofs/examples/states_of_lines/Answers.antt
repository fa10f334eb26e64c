use Rattle.std.proofs.Common.{refl}
use Rattle.psa_whatif.specs.EditText.{script_from}
use Rattle.psa_whatif.proofs.examples.states_of_lines.Goals as goal

pub returns-clause-empty : goal.returns-clause-empty
unfolding script_from
returns-clause-empty c = refl

pub returns-clause-no_lines : goal.returns-clause-no_lines
unfolding script_from
returns-clause-no_lines c = refl

pub returns-clause-unended : goal.returns-clause-unended
unfolding script_from
returns-clause-unended c = refl

pub returns-clause-ends : goal.returns-clause-ends
unfolding script_from
returns-clause-ends c = refl

pub returns-clause-again : goal.returns-clause-again
unfolding script_from
returns-clause-again c = refl
