use Rattle.psa_diagram_tests.proofs.rows.wrong_rows.Given as goal

abbrev pub ghosts-take_tables : goal.ghosts-take_tables
ghosts-take_tables g a = record { name = a.blank.name; parts = a.blank.parts }
