-- The Taylor sums of the exponential function, exact and rounded to units of 10^-12. This project's own.
use Rattle.std.specs.Prelude.{ℕ, ℤ, pos, negsuc, zero, suc, Bool, nat_le, nat_lt, min, ◌&&◌, ◌+◌, ◌-◌, ◌*◌, ◌/◌, if◌then◌else◌}
use Rattle.std.specs.Int.{div_ceil}
use Rattle.psa_number.specs.declared.limits.TheConstants.{MAX_PLACE, MAX_TERM}
use Rattle.psa_number.specs.Units.{units}

-- a number raised to 0 where it is below
abbrev pub raised : ℤ → ℕ
raised (pos n) = n
raised (negsuc n) = 0

-- n ^ k
unfoldable pub power : ℕ → ℕ → ℕ
power n zero = 1
power n (suc k) = power n k * n

-- d ^ k * k!
unfoldable pub denominator : ℕ → ℕ → ℕ
denominator d zero = 1
denominator d (suc k) = denominator d k * (d * suc k)

-- numerator n d k / denominator d k is the sum of (n / d) ^ j / j! for j from 0 to k
unfoldable pub numerator : ℕ → ℕ → ℕ → ℕ
numerator n d zero = 1
numerator n d (suc k) = numerator n d k * (d * suc k) + power n (suc k)

-- the terms of the sum at p units, each rounded down
unfoldable pub lower_term : ℕ → ℕ → ℕ
lower_term p zero = units
lower_term p (suc k) = lower_term p k * p / (suc k * units)

-- the sum of the lower terms up to the k-th
unfoldable pub lower_sum : ℕ → ℕ → ℕ
lower_sum p zero = units
lower_sum p (suc k) = lower_sum p k + lower_term p (suc k)

-- the terms of the sum at q units, each rounded up
unfoldable pub upper_term : ℕ → ℕ → ℕ
upper_term q zero = units
upper_term q (suc k) = div_ceil (upper_term q k * q) (suc k * units)

-- the sum of the upper terms up to the k-th
unfoldable pub upper_sum : ℕ → ℕ → ℕ
upper_sum q zero = units
upper_sum q (suc k) = upper_sum q k + upper_term q (suc k)

-- the number of the last term of a lower sum, and the last number that an upper sum may end at
abbrev pub last_term : ℕ
last_term = MAX_TERM

-- the upper sum may end at its term k: it is at most one unit, and each later exact term is at most half of the
-- one before, so that all later ones together are at most this one
abbrev pub may_end : ℕ → ℕ → Bool
may_end q k = nat_le (2 * q) (suc k * units) && nat_le (upper_term q k) 1

-- the least number from k on that passes the test, or k + left where none below it does
unfoldable pub first_from : (ℕ → Bool) → ℕ → ℕ → ℕ
first_from test k zero = k
first_from test k (suc left) = if test k then k else first_from test (suc k) left

-- the number of the last term of the upper sum
abbrev pub last_place : ℕ → ℕ
last_place q = first_from (may_end q) 0 last_term

-- the upper sum, with its last term once more for all terms after it
abbrev pub closed_sum : ℕ → ℕ
closed_sum q = upper_sum q (last_place q) + upper_term q (last_place q)

-- past this number of units, 1 - 1 / S is 1 in all 12 digits
abbrev pub greatest_place : ℕ
greatest_place = MAX_PLACE

-- 1 - 1 / S in units, rounded down, from a sum that is at most S; and rounded up, from one that is at least S
abbrev pub lower_end : ℕ → ℕ
lower_end sum = units - div_ceil (units * units) sum

-- the upper end of the interval from the upper sum S: 1 - 1/S, rounded up
abbrev pub upper_end : ℕ → ℕ
upper_end sum = units - units * units / sum

-- the lower end where the product of the lower ends of rate and time is low, in units of 10^-24
abbrev pub lower_end_at : ℕ → ℕ
lower_end_at low = lower_end (lower_sum (min (low / units) greatest_place) last_term)

-- the upper end where the product of the upper ends of rate and time is high, in units of 10^-24
abbrev pub upper_end_at : ℕ → ℕ
upper_end_at high = if nat_lt (greatest_place * units) high then units else upper_end (closed_sum (min (div_ceil high units) greatest_place))
