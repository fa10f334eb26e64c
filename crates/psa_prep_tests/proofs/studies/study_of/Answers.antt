use Rattle.std.proofs.Common.{ap, ◌∙◌}
use Rattle.std.specs.List.{list_all}
use Rattle.psa_model.specs.Standing.{target_stands}
use Rattle.psa_model.proofs.StandingTargets.{targets-standing}
use Rattle.psa_prep_tests.proofs.studies.study_of.Goals as goal

pub study_with-requires-clause-stand : goal.study_with-requires-clause-stand
study_with-requires-clause-stand c = ap (list_all (target_stands c.args.model)) c.in-Ok.ensures.targets ∙ targets-standing c.args.model c.requires.promised
