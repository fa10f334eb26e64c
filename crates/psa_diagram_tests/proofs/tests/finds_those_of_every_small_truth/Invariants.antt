use Rattle.psa_diagram_tests.proofs.tests.finds_those_of_every_small_truth.Given as goal

abbrev pub ghosts-every_truth : goal.ghosts-every_truth
ghosts-every_truth g a = record { name = a.blank.name; parts = a.blank.parts }
