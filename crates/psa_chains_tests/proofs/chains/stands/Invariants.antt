use Rattle.std.proofs.Common.{◌<◌, ℕ, length}
use Rattle.psa_chains.specs.Chains.{RefersTo}
use Rattle.psa_chains_tests.proofs.chains.stands.Given as goal

abbrev pub invariant-loop-row : goal.invariant-loop-row
invariant-loop-row l = (from to : ℕ) → from < l.row-index → RefersTo l.graph from to → to < length l.graph
