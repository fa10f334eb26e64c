-- What each operation on intervals answers, in units of 10^-12, rounded outwards. This project's own.
use Rattle.std.specs.Prelude.{ℕ, ℤ, pos, negsuc, neg_ℤ, suc, unsigned_abs, Bool, Result, Ok, Err, int_lt, int_le, nat_le, ◌&&◌, ◌||◌, ◌*◌, ◌/◌, ◌^◌, ◌+ℤ◌, ◌-ℤ◌, ◌*ℤ◌, ◌≤ℤ◌, if◌then◌else◌}
use Rattle.std.specs.Int.{int_div_euclid, int_min, int_max, div_ceil}
use Rattle.psa_number.specs.declared.fault.NumberFault.{NumberFault}
use Rattle.psa_number.specs.declared.fault.NumberFault.TheVariants.{TooLarge, ZeroDivisor, Negative}
use Rattle.psa_number.specs.declared.limits.TheConstants.{MAX_END}
use Rattle.psa_number.specs.Units.{units, floor_units, ceil_units, least, greatest}
use Rattle.psa_number.specs.Ends.{Ends}
use Rattle.psa_number.specs.Scaled.{Scaled}
use Rattle.psa_number.specs.Exponential.{raised, lower_end_at, upper_end_at}

-- neither end is past the limit in magnitude
abbrev pub is_limited : Ends → Bool
is_limited e = nat_le (unsigned_abs e.lo) MAX_END && nat_le (unsigned_abs e.hi) MAX_END

-- the interval with these ends, refused where an end is past the limit
abbrev pub limited : Ends → Result Ends NumberFault
limited e = if is_limited e then Ok e else Err TooLarge

-- the ends of the negated numbers, of the sums and of the differences
abbrev pub negative_ends : Ends → Ends
negative_ends a = record { lo = neg_ℤ a.hi; hi = neg_ℤ a.lo }

-- the sum of two intervals
abbrev pub sum_ends : Ends → Ends → Ends
sum_ends a b = record { lo = a.lo +ℤ b.lo; hi = a.hi +ℤ b.hi }

-- the difference of two intervals
abbrev pub difference_ends : Ends → Ends → Ends
difference_ends a b = record { lo = a.lo -ℤ b.hi; hi = a.hi -ℤ b.lo }

-- from the floor of the least to the ceiling of the greatest of the four products of ends
abbrev pub product_ends : Ends → Ends → Ends
product_ends a b = record {
  lo = floor_units (least (a.lo *ℤ b.lo) (a.lo *ℤ b.hi) (a.hi *ℤ b.lo) (a.hi *ℤ b.hi));
  hi = ceil_units (greatest (a.lo *ℤ b.lo) (a.lo *ℤ b.hi) (a.hi *ℤ b.lo) (a.hi *ℤ b.hi));
}

-- the floor of n / d, where d is not 0
abbrev pub floor_quotient : ℤ → ℤ → ℤ
floor_quotient n (pos d) = int_div_euclid n (pos d)
floor_quotient n (negsuc d) = int_div_euclid (neg_ℤ n) (pos (suc d))

-- the ceiling of n / d, where d is not 0
abbrev pub ceil_quotient : ℤ → ℤ → ℤ
ceil_quotient n d = neg_ℤ (floor_quotient (neg_ℤ n) d)

-- the quotient of two ends, in units, rounded down, and rounded up
abbrev pub quotient_below : ℤ → ℤ → ℤ
quotient_below x y = floor_quotient (x *ℤ pos units) y

-- a quotient in units, rounded up
abbrev pub quotient_above : ℤ → ℤ → ℤ
quotient_above x y = ceil_quotient (x *ℤ pos units) y

-- the floor of the least and the ceiling of the greatest of the four quotients of ends: the floor of the least
-- is the least of the floors
abbrev pub quotient_ends : Ends → Ends → Ends
quotient_ends a b = record {
  lo = least (quotient_below a.lo b.lo) (quotient_below a.lo b.hi) (quotient_below a.hi b.lo) (quotient_below a.hi b.hi);
  hi = greatest (quotient_above a.lo b.lo) (quotient_above a.lo b.hi) (quotient_above a.hi b.lo) (quotient_above a.hi b.hi);
}

-- 0 is in the interval
abbrev pub has_zero : Ends → Bool
has_zero a = int_le a.lo (pos 0) && int_le (pos 0) a.hi

-- the quotients, refused first where the divisor may be 0
abbrev pub quotient_of : Ends → Ends → Result Ends NumberFault
quotient_of a b = if has_zero b then Err ZeroDivisor else limited (quotient_ends a b)

-- the exponential distribution at a rate and a time: refused where one of them is below 0 everywhere
abbrev pub exponential_of : Ends → Ends → Result Ends NumberFault
exponential_of rate time = if int_lt rate.hi (pos 0) || int_lt time.hi (pos 0) then Err Negative else Ok (record {
  lo = pos (lower_end_at (raised rate.lo * raised time.lo));
  hi = pos (upper_end_at (raised rate.hi * raised time.hi));
})

-- a number of units held to 0 and 1
abbrev pub held_to_unit : ℤ → ℤ
held_to_unit z = int_max (pos 0) (int_min (pos units) z)

-- the interval with both ends held to 0 and 1
abbrev pub unit_ends : Ends → Ends
unit_ends a = record { lo = held_to_unit a.lo; hi = held_to_unit a.hi }

-- all of the interval is within 0 and 1
pub record IsInUnit (a : Ends) : Type 0 where
  pub low : pos 0 ≤ℤ a.lo
  pub high : a.hi ≤ℤ pos units

-- the product of two intervals within 0 and 1
abbrev pub unit_product_ends : Ends → Ends → Ends
unit_product_ends a b = record { lo = floor_units (a.lo *ℤ b.lo); hi = ceil_units (a.hi *ℤ b.hi) }

-- the sum of two intervals within 0 and 1, each end held at 1
abbrev pub unit_sum_ends : Ends → Ends → Ends
unit_sum_ends a b = record { lo = int_min (pos units) (a.lo +ℤ b.lo); hi = int_min (pos units) (a.hi +ℤ b.hi) }

-- 1 less the interval
abbrev pub complement_ends : Ends → Ends
complement_ends a = record { lo = pos units -ℤ a.hi; hi = pos units -ℤ a.lo }

-- the floor and the ceiling of the magnitude digits * 10 ^ exponent, in units of 10^-12, where scale is exponent + 12
abbrev pub magnitude_below : ℕ → ℤ → ℕ
magnitude_below digits (pos up) = digits * 10 ^ up
magnitude_below digits (negsuc down) = digits / 10 ^ suc down

-- digits times a power of ten, rounded up
abbrev pub magnitude_above : ℕ → ℤ → ℕ
magnitude_above digits (pos up) = digits * 10 ^ up
magnitude_above digits (negsuc down) = div_ceil digits (10 ^ suc down)

-- from the floor to the ceiling of a decimal, in units
abbrev pub positive_ends : ℕ → ℤ → Ends
positive_ends digits scale = record { lo = pos (magnitude_below digits scale); hi = pos (magnitude_above digits scale) }

-- the interval of a decimal, rounded outwards to units
abbrev pub decimal_ends : Scaled → Ends
decimal_ends d = if d.negative then negative_ends (positive_ends d.digits (d.exponent +ℤ pos 12)) else positive_ends d.digits (d.exponent +ℤ pos 12)
