use Rattle.psa_model.proofs.PathBounds.{short-paths}
use Rattle.psa_model.proofs.path_laws.paths_are_short.Goals as goal

pub returns : goal.returns
returns c = short-paths
