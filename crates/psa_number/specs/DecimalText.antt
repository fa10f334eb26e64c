-- The text of a decimal number, as an attribute of the Open-PSA format spells one: an optional sign, digits with at
-- most one point, and optionally e or E, a sign and one to four digits. The limits are this project's own.
use Rattle.std.specs.Prelude.{ℕ, ℤ, pos, negsuc, neg_ℤ, zero, suc, Bool, List, [], ◌∷◌, ◌++◌, Option, Some, None, Result, Ok, Err, length, is_some, int_lt, nat_lt, nat_le, unsigned_abs, ◌==◌, ◌&&◌, ◌||◌, ◌+◌, ◌*◌, ◌/◌, ◌%◌, ◌^◌, ◌-ℤ◌, if◌then◌else◌}
use Rattle.std.specs.List.{before_first, after_first, position, list_all}
use Rattle.std.specs.Char.{is_ascii_digit}
use Rattle.std.specs.Str.Parse.{starts_with_minus, without_leading_sign, digits_value, signed_digits_value}
use Rattle.std.specs.Fmt.{decimal}
use Rattle.psa_number.specs.declared.fault.NumberFault.{NumberFault}
use Rattle.psa_number.specs.declared.fault.NumberFault.TheVariants.{NotDecimal, TooManyDigits, TooLarge}
use Rattle.psa_number.specs.declared.limits.TheConstants.{MAX_DECIMAL, MAX_DIGITS, MAX_EXPONENT, MAX_EXPONENT_DIGITS}
use Rattle.psa_number.specs.Units.{units}
use Rattle.psa_number.specs.Scaled.{Scaled}

-- e or E, which stands before the exponent
abbrev pub is_mark : ℕ → Bool
is_mark c = (c == 101) || (c == 69)

-- the decimal point
abbrev pub is_point : ℕ → Bool
is_point c = c == 46

-- digits and nothing else
abbrev pub are_digits : List ℕ → Bool
are_digits text = list_all is_ascii_digit text

-- the exponent that the text after the mark spells: an optional sign and one to four digits
abbrev pub exponent_of : List ℕ → Option ℤ
exponent_of text =
    if are_digits (without_leading_sign text) && nat_lt 0 (length (without_leading_sign text)) && nat_le (length (without_leading_sign text)) MAX_EXPONENT_DIGITS then Some (signed_digits_value 10 text) else None

-- the exponent of an unsigned number: 0 where it has no mark
abbrev pub exponent_part : List ℕ → Option ℤ
exponent_part text = if is_some (position is_mark text) then exponent_of (after_first is_mark text) else Some (pos 0)

-- the digits before and after the point of an unsigned number, all before the exponent
abbrev pub whole_part : List ℕ → List ℕ
whole_part text = before_first is_point (before_first is_mark text)

-- the digits behind the point and before the exponent
abbrev pub fraction_part : List ℕ → List ℕ
fraction_part text = after_first is_point (before_first is_mark text)

-- the magnitude digits * 10 ^ exponent is at most the limit
abbrev pub is_within : ℕ → ℕ → ℤ → Bool
is_within limit digits (pos up) = nat_le (digits * 10 ^ up) limit
is_within limit digits (negsuc down) = nat_le digits (limit * 10 ^ suc down)

-- the decimal of these parts, refused where its magnitude is past a million
abbrev pub scaled_of : Bool → ℕ → ℤ → Result Scaled NumberFault
scaled_of negative digits exponent = if is_within MAX_DECIMAL digits exponent then Ok (record { negative = negative; digits = digits; exponent = exponent }) else Err TooLarge

-- the number that the digits before and after the point and the exponent spell; too many digits are refused first
abbrev pub number_of : Bool → List ℕ → List ℕ → ℤ → Result Scaled NumberFault
number_of negative whole fraction exponent =
    if nat_lt MAX_DIGITS (length (whole ++ fraction))
    || int_lt exponent (neg_ℤ MAX_EXPONENT) || int_lt MAX_EXPONENT exponent then Err TooManyDigits
    else scaled_of negative (digits_value 10 (whole ++ fraction)) (exponent -ℤ pos (length fraction))

-- what stands before the exponent is digits, at least one
abbrev pub is_mantissa : List ℕ → List ℕ → Bool
is_mantissa whole fraction = are_digits (whole ++ fraction) && nat_lt 0 (length (whole ++ fraction))

-- the same, where the exponent is spelled right
abbrev pub with_exponent : Bool → List ℕ → List ℕ → Option ℤ → Result Scaled NumberFault
with_exponent negative whole fraction None = Err NotDecimal
with_exponent negative whole fraction (Some exponent) = number_of negative whole fraction exponent

-- what the text after the sign reads as
abbrev pub unsigned_of : Bool → List ℕ → Result Scaled NumberFault
unsigned_of negative text =
    if is_mantissa (whole_part text) (fraction_part text) then with_exponent negative (whole_part text) (fraction_part text) (exponent_part text) else Err NotDecimal

-- what the text reads as
abbrev pub decimal_of : List ℕ → Result Scaled NumberFault
decimal_of text = unsigned_of (starts_with_minus text) (without_leading_sign text)

-- the last `places` digits of n
unfoldable pub last_digits : ℕ → ℕ → List ℕ
last_digits zero n = []
last_digits (suc places) n = last_digits places (n / 10) ++ (48 + n % 10) ∷ []

-- a minus where the number is negative
abbrev pub sign_of : ℤ → List ℕ
sign_of value = if int_lt value (pos 0) then 45 ∷ [] else []

-- a number of units in decimals: the whole part without leading zeros, a point and 12 digits
abbrev pub text_of_units : ℤ → List ℕ
text_of_units value = sign_of value ++ decimal (unsigned_abs value / units) ++ 46 ∷ [] ++ last_digits 12 (unsigned_abs value % units)

-- the decimal that a number of units is
abbrev pub scaled_of_units : ℤ → Scaled
scaled_of_units value = record { negative = int_lt value (pos 0); digits = unsigned_abs value; exponent = negsuc 11 }
