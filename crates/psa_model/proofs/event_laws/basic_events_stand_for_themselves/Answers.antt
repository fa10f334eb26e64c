use Rattle.psa_model.proofs.PlainOrder.{plain}
use Rattle.psa_model.proofs.event_laws.basic_events_stand_for_themselves.Goals as goal

pub returns : goal.returns
returns c = plain
