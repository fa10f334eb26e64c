use Rattle.std.proofs.Common.{◌≡◌, ◌≤◌, length, reverse}
use Rattle.psa_prep.specs.States.{is_changed}
use Rattle.psa_prep.proofs.states.HouseStates.is_changed.Given as goal

abbrev pub decreases-loop-left : goal.decreases-loop-left
decreases-loop-left l = l.left

abbrev pub invariant-loop-left : goal.invariant-loop-left
invariant-loop-left l = record {
  within : l.place ≤ length (reverse l.self.changes.keys);
  same : is_changed (reverse l.self.changes.keys) l.place l.left ≡ is_changed (reverse l.self.changes.keys) l.number l.house;
}
