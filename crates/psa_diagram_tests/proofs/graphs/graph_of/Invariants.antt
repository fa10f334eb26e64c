use Rattle.std.proofs.Common.{reverse}
use Rattle.psa_graph.specs.Truths.{AreChildrenFirst}
use Rattle.psa_diagram_tests.proofs.graphs.graph_of.Given as goal

abbrev pub invariant-loop-set : goal.invariant-loop-set
invariant-loop-set g l = AreChildrenFirst 3 (reverse l.nodes)
