use Rattle.psa_model.proofs.PathCounts.{few-paths, all-arrived}
use Rattle.psa_model.proofs.path_laws.walks_without_a_fault_end.Goals as goal

pub returns-clause-arrived : goal.returns-clause-arrived
returns-clause-arrived c = all-arrived

pub returns-clause-few : goal.returns-clause-few
returns-clause-few c = few-paths
