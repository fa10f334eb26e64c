use Rattle.std.proofs.Common.{◌≡◌, ◌≤◌, ◌+◌, ◌*◌, length, Ok}
use Rattle.psa_nodes.specs.declared.node.TheConstants.NodeId.{EMPTY}
use Rattle.psa_nodes.specs.Progress.{IsCall}
use Rattle.psa_nodes.specs.Tails.{AreTailsOf}
use Rattle.psa_zbdd.specs.GraphFamilies.{IsGraphProduct}
use Rattle.psa_zbdd.proofs.GraphFamilySteps.{AreCovered}
use Rattle.psa_zbdd.proofs.graph_families.root_family.Given as goal

abbrev pub invariant-loop-place : goal.invariant-loop-place
invariant-loop-place g l = record {
  size : length l.families ≡ l.place;
  covered : AreCovered l.graph l.limit l.needed l.table.nodes l.families;
  call : IsCall (AreTailsOf (IsGraphProduct l.graph l.limit)) 0 l.fn.table l.table (Ok EMPTY);
  turns : l.steps + 6 * length l.fn.table.entries ≤ l.fn.steps + 6 * length l.table.entries;
}
