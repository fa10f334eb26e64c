use Rattle.std.proofs.Common.{◌≡◌, ◌≤◌, length}
use Rattle.psa_graph.specs.Needs.{IsNeeded, IsClosedFrom}
use Rattle.psa_graph.proofs.marking.needed_places.Given as goal

abbrev pub decreases-loop-left : goal.decreases-loop-left
decreases-loop-left l = l.left

abbrev pub invariant-loop-left : goal.invariant-loop-left
invariant-loop-left l = record {
  size : length l.needed ≡ length l.graph.nodes;
  within : l.left ≤ length l.graph.nodes;
  root : IsNeeded l.needed l.graph.root;
  closed : IsClosedFrom l.graph l.needed l.left;
}
