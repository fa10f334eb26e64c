use Rattle.std.proofs.Common.{refl}
use Rattle.std.specs.Fmt.{digits}
use Rattle.psa_outcome.proofs.Analysed.{asked, not-asked}
use Rattle.psa_outcome.proofs.examples.an_event_without_value_is_a_fault_of_quantities.Goals as goal

pub returns-clause-asked : goal.returns-clause-asked
returns-clause-asked c settings has = asked settings has

pub returns-clause-not_asked : goal.returns-clause-not_asked
returns-clause-not_asked c settings has = not-asked settings has

pub returns-clause-line : goal.returns-clause-line
unfolding digits
returns-clause-line c = refl
