use Rattle.std.proofs.Common.{◌≡◌, length}
use Rattle.psa_load_tests.proofs.loading.named.Given as goal

abbrev pub invariant-loop-name : goal.invariant-loop-name
invariant-loop-name l = length l.made ≡ l.name-index
