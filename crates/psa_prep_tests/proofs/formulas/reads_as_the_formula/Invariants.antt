use Rattle.psa_prep_tests.proofs.formulas.reads_as_the_formula.Given as goal

abbrev pub ghosts-differences : goal.ghosts-differences
ghosts-differences g a = record { name = a.blank.name; parts = a.blank.parts }
