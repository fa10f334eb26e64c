-- Exact fractions, and when an interval brackets one. This project's own.
use Rattle.std.specs.Prelude.{ℕ, ℤ, pos, negsuc, neg_ℤ, zero, suc, ◌*◌, ◌^◌, ◌<◌, ◌+ℤ◌, ◌-ℤ◌, ◌*ℤ◌, ◌≤ℤ◌, if◌then◌else◌}
use Rattle.std.specs.Int.{int_min, int_max}
use Rattle.psa_number.specs.Units.{units}
use Rattle.psa_number.specs.Ends.{Ends}
use Rattle.psa_number.specs.Scaled.{Scaled}
use Rattle.psa_number.specs.Exponential.{raised, numerator, denominator}

-- the exact number num / den, which need not be in lowest terms
pub record Fraction : Type 0 where
  pub num : ℤ
  pub den : ℕ

-- the interval with these ends, in units, brackets the fraction: lo ≤ units * num / den ≤ hi
pub record Holds (e : Ends) (f : Fraction) : Type 0 where
  pub positive : 0 < f.den
  pub low : (e.lo *ℤ pos f.den) ≤ℤ (f.num *ℤ pos units)
  pub high : (f.num *ℤ pos units) ≤ℤ (e.hi *ℤ pos f.den)

-- the negative of a fraction
abbrev pub minus : Fraction → Fraction
minus x = record { num = neg_ℤ x.num; den = x.den }

-- the sum of two fractions
abbrev pub plus : Fraction → Fraction → Fraction
plus x y = record { num = (x.num *ℤ pos y.den) +ℤ (y.num *ℤ pos x.den); den = x.den * y.den }

-- the difference of two fractions
abbrev pub difference : Fraction → Fraction → Fraction
difference x y = record { num = (x.num *ℤ pos y.den) -ℤ (y.num *ℤ pos x.den); den = x.den * y.den }

-- the product of two fractions
abbrev pub times : Fraction → Fraction → Fraction
times x y = record { num = x.num *ℤ y.num; den = x.den * y.den }

-- x divided by m / d, with the sign of m put on the numerator; a quotient by 0 counts as 0
abbrev pub over : Fraction → ℤ → ℕ → Fraction
over x (pos zero) d = record { num = pos 0; den = 1 }
over x (pos (suc m)) d = record { num = x.num *ℤ pos d; den = x.den * suc m }
over x (negsuc m) d = record { num = neg_ℤ (x.num *ℤ pos d); den = x.den * suc m }

-- the quotient of two fractions
abbrev pub quotient : Fraction → Fraction → Fraction
quotient x y = over x y.num y.den

-- raised to 0 or lowered to 1 where it is outside
abbrev pub held_in_unit : Fraction → Fraction
held_in_unit x = record { num = int_max (pos 0) (int_min (pos x.den) x.num); den = x.den }

-- lowered to 1 where it is more
abbrev pub at_most_one : Fraction → Fraction
at_most_one x = record { num = int_min (pos x.den) x.num; den = x.den }

-- what a fraction leaves of 1
abbrev pub one_minus : Fraction → Fraction
one_minus x = record { num = pos x.den -ℤ x.num; den = x.den }

-- 1 - 1 / S, where S is the sum of the terms 0 to n of the Taylor series of the exponential function at the
-- product of rate and time, each first raised to 0. It tends to 1 - exp (- rate * time).
abbrev pub exponential_at : ℕ → Fraction → Fraction → Fraction
exponential_at n rate time = record {
  num = pos (numerator (raised rate.num * raised time.num) (rate.den * time.den) n) -ℤ pos (denominator (rate.den * time.den) n);
  den = numerator (raised rate.num * raised time.num) (rate.den * time.den) n;
}

-- digits * 10 ^ exponent
abbrev pub magnitude : ℕ → ℤ → Fraction
magnitude digits (pos up) = record { num = pos (digits * 10 ^ up); den = 1 }
magnitude digits (negsuc down) = record { num = pos digits; den = 10 ^ suc down }

-- the number that a decimal is
abbrev pub fraction_of : Scaled → Fraction
fraction_of d = if d.negative then minus (magnitude d.digits d.exponent) else magnitude d.digits d.exponent
