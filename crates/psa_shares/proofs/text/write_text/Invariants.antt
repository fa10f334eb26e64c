use Rattle.psa_shares.proofs.text.write_text.Given as goal

abbrev pub ghosts-write_sections : goal.ghosts-write_sections
ghosts-write_sections g a = record { name = a.blank.name; parts = a.blank.parts }
