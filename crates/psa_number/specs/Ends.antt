-- Intervals of numbers, in units of 10^-12. This project's own.
use Rattle.std.specs.Prelude.{ℤ, unsigned_abs, ◌≤◌, ◌≤ℤ◌}
use Rattle.psa_number.specs.declared.limits.TheConstants.{MAX_END}

-- the two ends of an interval, in units
pub record Ends : Type 0 where
  pub lo : ℤ
  pub hi : ℤ

-- the intervals that this project holds: neither end is past 10^18 units, which is a million
pub record IsInterval (lo hi : ℤ) : Type 0 where
  pub ordered : lo ≤ℤ hi
  pub lo_limited : unsigned_abs lo ≤ MAX_END
  pub hi_limited : unsigned_abs hi ≤ MAX_END
