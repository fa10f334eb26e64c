use Rattle.std.proofs.Common.{refl}
use Rattle.std.specs.Fmt.{digits}
use Rattle.psa_model.proofs.examples.lines_of_faults.Goals as goal

pub returns-clause-text : goal.returns-clause-text
unfolding digits
returns-clause-text c = refl

pub returns-clause-shape : goal.returns-clause-shape
unfolding digits
returns-clause-shape c = refl

pub returns-clause-value : goal.returns-clause-value
unfolding digits
returns-clause-value c = refl
