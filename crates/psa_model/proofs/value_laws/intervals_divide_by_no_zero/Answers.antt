use Rattle.psa_model.proofs.RightDivisions.{value-divides, events-divide}
use Rattle.psa_model.proofs.value_laws.intervals_divide_by_no_zero.Goals as goal

pub returns-clause-value : goal.returns-clause-value
returns-clause-value c = value-divides

pub returns-clause-events : goal.returns-clause-events
returns-clause-events c = λ terms long mission expanded values is. events-divide terms long mission expanded.model expanded.events values is
