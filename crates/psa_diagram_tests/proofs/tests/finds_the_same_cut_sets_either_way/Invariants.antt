use Rattle.psa_diagram_tests.proofs.tests.finds_the_same_cut_sets_either_way.Given as goal

abbrev pub ghosts-every_graph : goal.ghosts-every_graph
ghosts-every_graph g a = record { name = a.blank.name; parts = a.blank.parts }
