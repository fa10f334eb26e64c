use Rattle.psa_nodes.specs.Nodes.{IsBounded}
use Rattle.psa_prep_tests.proofs.formulas.differences.Given as goal

abbrev pub invariant-loop-formula : goal.invariant-loop-formula
invariant-loop-formula g l = IsBounded l.table.nodes
