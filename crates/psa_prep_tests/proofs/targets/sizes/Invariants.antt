use Rattle.psa_prep_tests.proofs.targets.sizes.Given as goal

abbrev pub ghosts-put_targets : goal.ghosts-put_targets
ghosts-put_targets a = record { name = a.blank.name; parts = a.blank.parts }
