use Rattle.std.proofs.Common.{ℕ, ◌≡◌, ◌+◌, ◌*◌, ◌^◌, ◌≤◌}
use Rattle.psa_number.specs.Units.{units}
use Rattle.psa_number.specs.Exponential.{lower_term, lower_sum}
use Rattle.psa_number.proofs.taylor.rounded_down_sum.Given as goal

pub record IsSoFar (place k term sum : ℕ) : Type 0 where
  pub term_is : term ≡ lower_term place k
  pub sum_is : sum ≡ lower_sum place k
  pub small : term ≤ 10 ^ 24
  pub fits : sum ≤ (k + 1) * 10 ^ 24
  pub some : units ≤ sum

abbrev pub invariant-loop-k : goal.invariant-loop-k
invariant-loop-k l = IsSoFar l.place l.k l.term l.sum
