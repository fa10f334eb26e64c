use Rattle.psa_model.proofs.HeldValues.{value-held, events-held}
use Rattle.psa_model.proofs.value_laws.intervals_hold_exact_values.Goals as goal

pub returns-clause-value : goal.returns-clause-value
returns-clause-value c = value-held

pub returns-clause-events : goal.returns-clause-events
returns-clause-events c = λ terms long mission expanded values is. events-held terms long mission expanded.model expanded.events values is
