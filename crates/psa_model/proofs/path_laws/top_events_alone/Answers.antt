use Rattle.psa_model.proofs.PathCounts.{targets-alone, no-walk-fault}
use Rattle.psa_model.proofs.path_laws.top_events_alone.Goals as goal

pub returns-clause-targets : goal.returns-clause-targets
returns-clause-targets c = targets-alone

pub returns-clause-fault : goal.returns-clause-fault
returns-clause-fault c = no-walk-fault
