use Rattle.psa_model.proofs.WalkLevels.{instruction-more, walk-more, walk-ways}
use Rattle.psa_model.proofs.model_laws.more_levels_change_no_walk.Goals as goal

pub returns-clause-instruction : goal.returns-clause-instruction
returns-clause-instruction c = instruction-more

pub returns-clause-branch : goal.returns-clause-branch
returns-clause-branch c = walk-more

pub returns-clause-ways : goal.returns-clause-ways
returns-clause-ways c = walk-ways
