use Rattle.std.proofs.Common.{◌≡◌, ◌≤◌, ◌-◌, length, take}
use Rattle.psa_report.specs.Lines.{IsExact}
use Rattle.psa_report.proofs.lines.KeptLine.take.Given as goal

abbrev pub invariant-loop-self : goal.invariant-loop-self
invariant-loop-self l = record {
  exact : IsExact (record { expanded = l.expanded; ranks = l.ranks }) l.self;
  order : l.self.order ≡ l.fn.self.order;
  few : l.self.count ≤ length l.literals;
  same : take l.self.count l.self.literals ≡ take l.self.count l.literals;
}

abbrev pub decreases-loop-self : goal.decreases-loop-self
decreases-loop-self l = length l.literals - l.self.count
