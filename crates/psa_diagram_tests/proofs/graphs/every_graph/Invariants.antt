use Rattle.psa_nodes.specs.Nodes.{IsBounded}
use Rattle.psa_diagram_tests.proofs.graphs.every_graph.Given as goal

abbrev pub invariant-loop-truth : goal.invariant-loop-truth
invariant-loop-truth g l = IsBounded l.table.nodes
