use Rattle.psa_model.proofs.PathLevels.{more-levels}
use Rattle.psa_model.proofs.path_laws.more_levels_change_no_path.Goals as goal

pub returns : goal.returns
returns c = more-levels
