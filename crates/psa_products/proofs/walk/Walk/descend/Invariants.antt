use Rattle.std.proofs.Common.{◌≡◌}
use Rattle.psa_nodes.specs.Readings.{has}
use Rattle.psa_nodes.specs.Sizes.{HasMember}
use Rattle.psa_products.specs.Walks.{to_come, IsWalk}
use Rattle.psa_products.proofs.walk.Walk.descend.Given as goal

abbrev pub invariant-loop-self : goal.invariant-loop-self
invariant-loop-self g l = record {
  walk : IsWalk l.self;
  member : HasMember (has l.self.table.now.nodes l.self.at.0) l.self.left;
  same : to_come l.self ≡ to_come l.fn.self;
}

abbrev pub decreases-loop-self : goal.decreases-loop-self
decreases-loop-self g l = l.self.at.0
