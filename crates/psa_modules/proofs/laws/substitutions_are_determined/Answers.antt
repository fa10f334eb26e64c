use Rattle.psa_modules.proofs.SubstitutionLemmas.{modules-same, set-same, choice-gives}
use Rattle.psa_modules.proofs.laws.substitutions_are_determined.Goals as goal

pub returns-clause-modules : goal.returns-clause-modules
returns-clause-modules c = modules-same

pub returns-clause-set : goal.returns-clause-set
returns-clause-set c = set-same

pub returns-clause-exists : goal.returns-clause-exists
returns-clause-exists c = choice-gives
