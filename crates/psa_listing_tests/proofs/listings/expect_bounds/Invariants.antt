use Rattle.std.proofs.Common.{◌≡◌}
use Rattle.psa_listing_tests.proofs.listings.expect_bounds.Given as goal

abbrev pub invariant-loop-round : goal.invariant-loop-round
invariant-loop-round g l = l.bounds ≡ record { values = l.values; ranks = l.ranks }
