use Rattle.std.proofs.Common.{◌≡◌, ◌+◌, ◌*◌, length, Ok}
use Rattle.psa_nodes.specs.declared.node.TheConstants.NodeId.{FALSE}
use Rattle.psa_nodes.specs.Progress.{IsCall}
use Rattle.psa_bdd.specs.Building.{IsCofactorOfPlace}
use Rattle.psa_bdd.proofs.BuildLemmas.{AreBuilt}
use Rattle.psa_bdd.proofs.building.build_needed.Given as goal

abbrev pub invariant-loop-place : goal.invariant-loop-place
invariant-loop-place g l = record {
  size : length l.built ≡ l.place;
  built : AreBuilt l.graph l.needed l.table.nodes l.built;
  call : IsCall (IsCofactorOfPlace l.graph) 0 l.fn.table l.table (Ok FALSE);
  turns : l.steps + 2 * length l.fn.table.entries ≡ l.fn.steps + 2 * length l.table.entries;
}
