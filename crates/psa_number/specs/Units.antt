-- Quantities are counted in units of 10^-12. This project's own.
use Rattle.std.specs.Prelude.{ℕ, ℤ, pos, neg_ℤ}
use Rattle.psa_number.specs.declared.limits.TheConstants.{UNITS}
use Rattle.std.specs.Int.{int_div_euclid, int_min, int_max}

-- the number 1, in units
abbrev pub units : ℕ
units = UNITS

-- the floor of z / units
abbrev pub floor_units : ℤ → ℤ
floor_units z = int_div_euclid z (pos units)

-- the ceiling of z / units
abbrev pub ceil_units : ℤ → ℤ
ceil_units z = neg_ℤ (floor_units (neg_ℤ z))

-- the least of four numbers
abbrev pub least : ℤ → ℤ → ℤ → ℤ → ℤ
least a b c d = int_min (int_min a b) (int_min c d)

-- the greatest of four numbers
abbrev pub greatest : ℤ → ℤ → ℤ → ℤ → ℤ
greatest a b c d = int_max (int_max a b) (int_max c d)
