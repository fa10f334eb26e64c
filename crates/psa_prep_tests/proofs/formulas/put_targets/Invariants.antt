use Rattle.psa_nodes.specs.Nodes.{IsBounded}
use Rattle.psa_prep_tests.proofs.formulas.put_targets.Given as goal

abbrev pub invariant-loop-target : goal.invariant-loop-target
invariant-loop-target g l = IsBounded l.table.nodes
