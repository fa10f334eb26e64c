use Rattle.std.proofs.Common.{ℕ, ◌≡◌, ◌+◌, ◌-◌, ◌*◌, ◌^◌, ◌≤◌}
use Rattle.psa_number.specs.Units.{units}
use Rattle.psa_number.specs.Exponential.{upper_term, upper_sum, first_from, may_end, last_place, last_term}
use Rattle.psa_number.proofs.taylor.rounded_up_sum.Given as goal

pub record IsSoFar (place k term sum : ℕ) : Type 0 where
  pub term_is : term ≡ upper_term place k
  pub sum_is : sum ≡ upper_sum place k
  pub last : first_from (may_end place) k (last_term - k) ≡ last_place place
  pub small : term ≤ 10 ^ 24
  pub fits : sum ≤ (k + 1) * 10 ^ 24
  pub some : units ≤ sum

abbrev pub invariant-loop-k : goal.invariant-loop-k
invariant-loop-k l = IsSoFar l.place l.k l.term l.sum
