use Rattle.std.proofs.Common.{refl}
use Rattle.psa_whatif.specs.EditText.{script_from}
use Rattle.psa_whatif.proofs.examples.the_five_lines.Goals as goal

pub returns-clause-states : goal.returns-clause-states
unfolding script_from
returns-clause-states c = refl

pub returns-clause-bad : goal.returns-clause-bad
unfolding script_from
returns-clause-bad c = refl

pub returns-clause-first : goal.returns-clause-first
returns-clause-first c = refl

pub returns-clause-both : goal.returns-clause-both
returns-clause-both c = refl
