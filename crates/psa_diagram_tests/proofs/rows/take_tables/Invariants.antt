use Rattle.psa_nodes.specs.Nodes.{IsBounded}
use Rattle.psa_diagram_tests.proofs.rows.take_tables.Given as goal

abbrev pub invariant-loop-rows : goal.invariant-loop-rows
invariant-loop-rows g l = IsBounded l.table.nodes
