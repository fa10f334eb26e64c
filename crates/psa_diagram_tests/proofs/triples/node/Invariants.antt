use Rattle.psa_nodes.specs.Nodes.{IsBounded}
use Rattle.psa_diagram_tests.proofs.triples.node.Given as goal

abbrev pub invariant-loop-sign : goal.invariant-loop-sign
invariant-loop-sign g l = IsBounded l.table.nodes
