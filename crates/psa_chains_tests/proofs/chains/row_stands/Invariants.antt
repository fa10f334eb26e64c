use Rattle.std.proofs.Common.{◌<◌, ℕ, get_or}
use Rattle.psa_chains.specs.Chains.{targets}
use Rattle.psa_chains_tests.proofs.chains.row_stands.Given as goal

abbrev pub invariant-loop-reference : goal.invariant-loop-reference
invariant-loop-reference l = (k : ℕ) → k < l.reference-index → get_or (targets l.references) k 0 < l.bound
