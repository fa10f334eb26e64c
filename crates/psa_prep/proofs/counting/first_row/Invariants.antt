use Rattle.std.proofs.Common.{◌≡◌}
use Rattle.psa_prep.specs.Counting.{first_pairs}
use Rattle.psa_prep.proofs.counting.first_row.Given as goal

abbrev pub invariant-loop-count : goal.invariant-loop-count
invariant-loop-count l = l.row.items ≡ first_pairs l._count
