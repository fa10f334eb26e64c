use Rattle.std.proofs.Common.{◌≡◌, ◌≤◌, ◌-◌, length, take}
use Rattle.psa_products.specs.PartialBounds.{ArePartial}
use Rattle.psa_products.proofs.partial.PartialBounds.bound.Given as goal

abbrev pub invariant-loop-self : goal.invariant-loop-self
invariant-loop-self l = record {
  partial : ArePartial l.values l.ranks l.self;
  few : l.self.count ≤ length l.literals;
  same : take l.self.count l.self.literals ≡ take l.self.count l.literals;
}

abbrev pub decreases-loop-self : goal.decreases-loop-self
decreases-loop-self l = length l.literals - l.self.count
