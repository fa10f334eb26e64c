use Rattle.psa_sections.proofs.report.write_report.Given as goal

abbrev pub ghosts-write_sections : goal.ghosts-write_sections
ghosts-write_sections g a = record { name = a.blank.name; parts = a.blank.parts }
