use Rattle.psa_whatif.proofs.EditLemmas.{house-truth}
use Rattle.psa_whatif.proofs.laws.unmet_house_events_change_no_truth.Goals as goal

pub returns : goal.returns
returns c expanded target id state unmet = house-truth expanded.model expanded.events target id state unmet
