-- The numbers that a scanner's counts stay within.
use Rattle.std.specs.Prelude.{ℕ, ◌+◌, ◌≤◌}
use Rattle.psa_text.specs.declared.limits.TheConstants.{MAX_FILE_BYTES}

pub record IsBounded (bytes lines elements : ℕ) : Type 0 where
  pub count : bytes ≤ MAX_FILE_BYTES
  pub line : lines ≤ bytes + 1
  pub begun : elements ≤ bytes
