use Rattle.psa_nodes.specs.Nodes.{IsBounded}
use Rattle.psa_diagram_tests.proofs.rows.take_rows.Given as goal

abbrev pub invariant-loop-row : goal.invariant-loop-row
invariant-loop-row g l = IsBounded l.table.nodes
