use Rattle.psa_listing_tests.proofs.listings.families_are_listed.Given as goal

abbrev pub ghosts-lists_families : goal.ghosts-lists_families
ghosts-lists_families g a = record { name = a.blank.name; parts = a.blank.parts }
