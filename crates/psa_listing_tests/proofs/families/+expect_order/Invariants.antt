use Rattle.psa_listing_tests.proofs.families.+expect_order.Given as goal

abbrev pub decreases-expect_order : goal.decreases-expect_order
decreases-expect_order g l = l.family.0
