-- Decimals: a whole number scaled by a power of ten, with its sign. This project's own.
use Rattle.std.specs.Prelude.{ℕ, ℤ, pos, negsuc, neg_ℤ, ◌+ℤ◌, Bool, suc, ◌*◌, ◌^◌, ◌<◌, ◌≤◌, ◌≤ℤ◌}
use Rattle.psa_number.specs.declared.limits.TheConstants.{MAX_DECIMAL, MAX_DIGITS, MAX_EXPONENT}

-- what a decimal is: `digits * 10 ^ exponent`, below 0 where `negative`
pub record Scaled : Type 0 where
  pub negative : Bool
  pub digits : ℕ
  pub exponent : ℤ

-- the magnitude `digits * 10 ^ exponent` is at most `limit`
abbrev pub IsWithin : ℕ → ℕ → ℤ → Type 0
IsWithin limit digits (pos up) = digits * 10 ^ up ≤ limit
IsWithin limit digits (negsuc down) = digits ≤ limit * 10 ^ suc down

-- of the least exponent, as many digits stand behind the point as there may be
abbrev pub least_exponent : ℤ
least_exponent = neg_ℤ (MAX_EXPONENT +ℤ pos MAX_DIGITS)

-- the decimals that this project holds
pub record IsDecimal (digits : ℕ) (exponent : ℤ) : Type 0 where
  pub few_digits : digits < 10 ^ MAX_DIGITS
  pub low_exponent : least_exponent ≤ℤ exponent
  pub high_exponent : exponent ≤ℤ MAX_EXPONENT
  pub within : IsWithin MAX_DECIMAL digits exponent
