use Rattle.psa_listing_tests.proofs.families.+small_family.Given as goal

abbrev pub decreases-small_family : goal.decreases-small_family
decreases-small_family g l = l.left
