use Rattle.std.proofs.Common.{◌≡◌, map, take}
use Rattle.std.specs.Prelude.{flat_map}
use Rattle.psa_names.specs.Outlines.{entry_of}
use Rattle.psa_cycles.specs.Graphs.{row_by, nesting_by}
use Rattle.psa_cycles.proofs.ReferenceRows.{levels_of}
use Rattle.psa_cycles.proofs.graph.graph_of.Given as goal

abbrev pub invariant-loop-definition : goal.invariant-loop-definition
invariant-loop-definition l = record {
  rows : l.graph.rows ≡ map (row_by (map entry_of l.definitions)) (take l.definition-index (map entry_of l.definitions));
  nested : l.graph.nested ≡ map nesting_by (take l.definition-index (map entry_of l.definitions));
  levels : l.levels.references ≡ flat_map levels_of (take l.definition-index (map entry_of l.definitions));
}
