use Rattle.std.proofs.Common.{◌≡◌}
use Rattle.psa_products.specs.Walks.{to_come, steps_up, IsWalk}
use Rattle.psa_products.proofs.walk.Walk.rise.Given as goal

abbrev pub invariant-loop-self : goal.invariant-loop-self
invariant-loop-self g l = record {
  walk : IsWalk l.self;
  same : to_come l.self ≡ to_come l.fn.self;
}

abbrev pub decreases-loop-self : goal.decreases-loop-self
decreases-loop-self g l = steps_up l.self
