-- Digits give the value of a decimal within the limits, and powers of ten scale it to units.
use Rattle.std.proofs.lemmas.Int.{ints}
use Rattle.std.proofs.Common.{Err, int_lt, ◌||◌, length-append, lt-ltb, le-ltb, ap₂, min, unsigned_abs, ◌+ℤ◌, ◌≤ℤ◌, ℤ, pos, negsuc, ◌-ℤ◌, ◌<ℤ◌, ℕ, zero, suc, ◌≡◌, ◌+◌, ◌-◌, ◌*◌, ◌/◌, ◌^◌, ◌<◌, ◌≤◌, Bool, true, false, cond, not, List, [], ◌∷◌, ◌++◌, length, take, get_or, Option, Some, None, unwrap_or, nat_lt, nat_le, ◌==◌, ◌&&◌, ⊎_elim, refl, ap, sym, ◌∙◌, arith, le_refl, leb-true, le-leb, ltb-false, leb-false, ne_eqb, ◌≢◌}
use Rattle.std.specs.List.{position, position_or_len, before_first, after_first}
use Rattle.std.specs.Char.{digit_value, is_ascii_digit}
use Rattle.std.specs.Str.Parse.{digits_value_after, starts_with_minus, without_leading_sign}
use Rattle.std.proofs.lemmas.List.{take_more}
use Rattle.std.proofs.lemmas.List.Sums.{prefix_len-le-length}
use Rattle.std.proofs.lemmas.List.Folds.{list_all_at, list_all-append}
use Rattle.std.proofs.lemmas.Nat.{pow-add}
use Rattle.std.proofs.Math.Nat.{mul-le-mul_right, mul-le-mul_left, pow-le-pow_right, one-le-pow, pow-suc, zero-mul, zero-add, div-eq_of_lt, mod-eq_of_lt, le_of_mul-le-mul_right}
use Rattle.std.proofs.lemmas.Bool.{cases_lt}
use Rattle.std.proofs.lemmas.Bool.Decides.{nat_tests}
use Rattle.std.specs.Int.{div_ceil, w128}
use Rattle.std.proofs.lemmas.Int.{to_z_pos}
use Rattle.std.proofs.Common.{to_z}
use Rattle.psa_number.specs.Ends.{IsInterval}
use Rattle.psa_number.proofs.SignedLemmas.{read}
use Rattle.psa_number.specs.Scaled.{IsWithin}
use Rattle.psa_number.specs.Operations.{magnitude_below, magnitude_above}
use Rattle.psa_number.proofs.TaylorSumLemmas.{floor_below_ceil, ceil_at_most}
use Rattle.psa_number.specs.DecimalText.{are_digits, is_within, number_of, scaled_of, decimal_of, unsigned_of, with_exponent, is_mantissa, exponent_part, whole_part, fraction_part, is_mark, is_point}
use Rattle.psa_number.specs.declared.fault.NumberFault.TheVariants.{TooManyDigits, NotDecimal}

-- ---- the first place that passes
place_case : (n end : ℕ) (t : Bool) → nat_lt n end ≡ t → n ≤ end → unwrap_or (cond t (Some n) None) end ≡ n
place_case n end true e le = refl
place_case n end false e le = let past : end ≤ n = ltb-false n end e in omega arith

-- The first place that passes, or the length where none does, as the code finds it.
pub place_is : (p : ℕ → Bool) (xs : List ℕ) → unwrap_or (position p xs) (length xs) ≡ position_or_len p xs
place_is p xs = place_case (position_or_len p xs) (length xs) (nat_lt (position_or_len p xs) (length xs)) refl (prefix_len-le-length (λ x. not (p x)) xs)

-- ---- digits
-- The value of an ASCII digit is its code less 48, which is from 0 to 9.
pub digit_of : (c : ℕ) → is_ascii_digit c ≡ true → (digit_value c ≡ c - 48) × (48 ≤ c) × (c ≤ 57)
digit_of c is = grind (arith, nat_tests)

digit_case : (ds : List ℕ) (i : ℕ) (t : Bool) → is_ascii_digit (get_or ds i 0) ≡ t → i < length ds → are_digits ds ≡ true → is_ascii_digit (get_or ds i 0) ≡ true
digit_case ds i true e le all = e
digit_case ds i false e le all = let none : are_digits ds ≡ false = list_all_at is_ascii_digit ds i 0 le e in absurd (cc)

-- Each place of a list of digits has a digit.
pub digit_at : (ds : List ℕ) (i : ℕ) → i < length ds → are_digits ds ≡ true → is_ascii_digit (get_or ds i 0) ≡ true
digit_at ds i le all = digit_case ds i (is_ascii_digit (get_or ds i 0)) refl le all

-- One digit more makes the value ten times as large and adds the digit.
pub after_push : (n : ℕ) (ds : List ℕ) (c : ℕ) → digits_value_after 10 n (ds ++ c ∷ []) ≡ digits_value_after 10 n ds * 10 + digit_value c
after_push n [] c = refl
after_push n (d ∷ ds) c = after_push (n * 10 + digit_value d) ds c

-- Digits behind others go on from the value of those before.
pub after_append : (n : ℕ) (xs ys : List ℕ) → digits_value_after 10 n (xs ++ ys) ≡ digits_value_after 10 (digits_value_after 10 n xs) ys
after_append n [] ys = refl
after_append n (x ∷ xs) ys = after_append (n * 10 + digit_value x) xs ys

-- the number that the first i digits write after those of start, with room for the others
pub record IsReadSoFar (start value i : ℕ) (digits : List ℕ) : Type 0 where
  pub value_is : value ≡ digits_value_after 10 start (take i digits)
  pub room : (value + 1) * 10 ^ (length digits - i) ≤ (start + 1) * 10 ^ length digits

-- Before the first digit, the value is the start.
pub read_none : (start : ℕ) (digits : List ℕ) → IsReadSoFar start start 0 digits
read_none start digits = let same : length digits - 0 ≡ length digits = omega arith in record {
  value_is = refl;
  room = rw same (le_refl ((start + 1) * 10 ^ length digits));
}

-- After one digit more, the value is that of the digits so far.
pub read_next : (start value i : ℕ) (digits : List ℕ) → i < length digits → are_digits digits ≡ true → IsReadSoFar start value i digits → IsReadSoFar start (value * 10 + (get_or digits i 0 - 48)) (i + 1) digits
read_next start value i digits le all so_far =
    let digit = digit_of (get_or digits i 0) (digit_at digits i le all) in
    let more : digits_value_after 10 start (take (i + 1) digits) ≡ digits_value_after 10 start (take i digits) * 10 + digit_value (get_or digits i 0) =
    ap (digits_value_after 10 start) (take_more digits i 0 le) ∙ after_push start (take i digits) (get_or digits i 0) in
    let left : ℕ = length digits - (i + 1) in
    let left_is : length digits - i ≡ suc left = omega arith in
    let power : 10 ^ (length digits - i) ≡ 10 ^ left * 10 = ap (λ (k : ℕ). 10 ^ k) left_is ∙ pow-suc 10 left in
    let small : value * 10 + (get_or digits i 0 - 48) + 1 ≤ (value + 1) * 10 = omega (arith, digit) in
    let h1 = mul-le-mul_right (10 ^ left) small in
    record {
      value_is = omega (arith, more, so_far.value_is, digit.0);
      room = omega (arith, h1, so_far.room, ap (λ (t : ℕ). (value + 1) * t) power);
    }

-- there is room for one digit more
pub read_room : (start value i : ℕ) (digits : List ℕ) → i < length digits → IsReadSoFar start value i digits → (start + 1) * 10 ^ length digits ≤ 10 ^ 36 → (value + 1) * 10 ≤ 10 ^ 36
read_room start value i digits le so_far limit =
    let ten : 1 ≤ length digits - i = omega arith in
    let some : 0 < 10 = omega arith in
    let h1 : 10 ^ 1 ≤ 10 ^ (length digits - i) = pow-le-pow_right some ten in
    let h2 = mul-le-mul_left (value + 1) h1 in
    omega (arith, h2, so_far.room)

-- ---- tests of size
-- The test m <= n answers false where n is less than m; by what the test answered.
pub not_le_case : (m n : ℕ) (t : Bool) → nat_le m n ≡ t → n < m → t ≡ false
not_le_case m n true e h = absurd (omega (arith, leb-true m n e))
not_le_case m n false e h = refl

-- The test m <= n answers false where n is less than m.
pub not_le : (m n : ℕ) → n < m → nat_le m n ≡ false
not_le m n h = not_le_case m n (nat_le m n) refl h

test_case : (m n m' n' : ℕ) (t : Bool) → nat_le m n ≡ t → (m ≤ n → m' ≤ n') → (m' ≤ n' → m ≤ n) → t ≡ nat_le m' n'
test_case m n m' n' true e f g = sym (le-leb m' n' (f (leb-true m n e)))
test_case m n m' n' false e f g =
    ⊎_elim (λ (above : n' < m'). sym (not_le m' n' above)) (λ (below : m' ≤ n'). absurd (let le : m ≤ n = g below in omega (arith, leb-false m n e))) (cases_lt n' m')

-- Two tests of size answer alike where each follows from the other.
pub same_test : (m n m' n' : ℕ) → (m ≤ n → m' ≤ n') → (m' ≤ n' → m ≤ n) → nat_le m n ≡ nat_le m' n'
same_test m n m' n' f g = test_case m n m' n' (nat_le m n) refl f g

-- A power of ten is more than 0.
pub power_some : (k : ℕ) → 0 < 10 ^ k
power_some k = let ten : 0 < 10 = omega arith in omega (arith, one-le-pow k 10 ten)

-- digits * 10 ^ up is at most 10 ^ 6, for each place of up
pub within_far : (digits up : ℕ) → 6 < up → (digits == 0) ≡ nat_le (digits * 10 ^ up) (10 ^ 6)
within_far zero up far = rw zero-mul (sym (le-leb 0 (10 ^ 6) (omega arith)))
within_far (suc digits) up far =
    let ten : 0 < 10 = omega arith in
    let h1 : 10 ^ 7 ≤ 10 ^ up = pow-le-pow_right ten far in
    let h2 : 1 * 10 ^ up ≤ suc digits * 10 ^ up = mul-le-mul_right (10 ^ up) (let l : 1 ≤ suc digits = omega arith in l) in
    let above : 10 ^ 6 < suc digits * 10 ^ up = omega (arith, h1, h2) in
    let apart : suc digits ≢ 0 = λ e. absurd (omega (arith, e)) in
    ne_eqb (suc digits) 0 apart ∙ sym (not_le (suc digits * 10 ^ up) (10 ^ 6) above)

-- A number times 10^up is at most 10^6 exactly where the number is at most 10 to the power of 6 less up.
pub within_up : (digits up k : ℕ) → up + k ≡ 6 → nat_le digits (10 ^ k) ≡ nat_le (digits * 10 ^ up) (10 ^ 6)
within_up digits up k e =
    let power : 10 ^ 6 ≡ 10 ^ up * 10 ^ k = ap (λ (j : ℕ). 10 ^ j) (sym e) ∙ pow-add 10 up k in
    same_test digits (10 ^ k) (digits * 10 ^ up) (10 ^ 6)
    (λ (le : digits ≤ 10 ^ k). omega (arith, mul-le-mul_right (10 ^ up) le, power))
    (λ (le : digits * 10 ^ up ≤ 10 ^ 6). le_of_mul-le-mul_right (let l : digits * 10 ^ up ≤ 10 ^ k * 10 ^ up = omega (arith, le, power) in l) (power_some up))

-- For an exponent below 0, the limit 10^6 times its power of ten is one power of ten.
pub within_down : (digits down k : ℕ) → 6 + down ≡ k → nat_le digits (10 ^ k) ≡ nat_le digits (10 ^ 6 * 10 ^ down)
within_down digits down k e = ap (λ (n : ℕ). nat_le digits n) (ap (λ (j : ℕ). 10 ^ j) (sym e) ∙ pow-add 10 6 down)

-- A number below 10^36 is within 10^6 times any power of ten past 29.
pub within_low : (digits down : ℕ) → 29 < down → digits < 10 ^ 36 → true ≡ nat_le digits (10 ^ 6 * 10 ^ down)
within_low digits down low few =
    let ten : 0 < 10 = omega arith in
    let h1 : 10 ^ 30 ≤ 10 ^ down = pow-le-pow_right ten low in
    sym (le-leb digits (10 ^ 6 * 10 ^ down) (omega (arith, h1)))

-- the tests of the code, by the exponent
pub far_is : (digits : ℕ) (e : ℤ) → pos 6 <ℤ e → (digits == 0) ≡ is_within (10 ^ 6) digits e
far_is digits (pos up) far = within_far digits up (omega (arith, ints))
far_is digits (negsuc down) far = absurd (omega (arith, ints))

-- A decimal of fewer than 37 digits is within the limit where its exponent is below -29.
pub low_is : (digits : ℕ) (e : ℤ) → digits < 10 ^ 36 → e <ℤ negsuc 28 → true ≡ is_within (10 ^ 6) digits e
low_is digits (pos up) few low = absurd (omega (arith, ints))
low_is digits (negsuc down) few low = within_low digits (suc down) (omega (arith, ints)) few

-- A decimal is within the limit exactly where its digits are at most ten to the power of 6 less its exponent.
pub mid_is : (digits : ℕ) (e : ℤ) (k : ℕ) → pos k ≡ (pos 6 -ℤ e) → nat_le digits (10 ^ k) ≡ is_within (10 ^ 6) digits e
mid_is digits (pos up) k is = within_up digits up k (omega (arith, ints))
mid_is digits (negsuc down) k is = within_down digits (suc down) k (omega (arith, ints))

-- The powers of ten up to 10^36 fit in 128 bits.
pub power_small : (k : ℕ) → k ≤ 36 → 10 ^ k < 2 ^ 128
power_small k le = let ten : 0 < 10 = omega arith in let h : 10 ^ k ≤ 10 ^ 36 = pow-le-pow_right ten le in omega (arith, h)

-- ---- from a decimal to units
power_sum : (i j k : ℕ) → i + j ≡ k → 10 ^ k ≡ 10 ^ i * 10 ^ j
power_sum i j k e = ap (λ (n : ℕ). 10 ^ n) (sym e) ∙ pow-add 10 i j

-- A decimal within 10^6 is within 10^18 units of 10^-12.
pub within_units : (digits : ℕ) (e s : ℤ) → s ≡ (e +ℤ pos 12) → IsWithin (10 ^ 6) digits e → IsWithin (10 ^ 18) digits s
within_units digits (pos up) (pos k) is within = omega (arith, within, ap (λ (t : ℕ). digits * t) (power_sum up 12 k (omega (arith, ints))))
within_units digits (pos up) (negsuc k) is within = absurd (omega (arith, ints))
within_units digits (negsuc down) (pos k) is within =
    let h = mul-le-mul_right (10 ^ k) within in
    let all : 10 ^ 12 ≡ 10 ^ suc down * 10 ^ k = power_sum (suc down) k 12 (omega (arith, ints)) in
    omega (arith, h, all)
within_units digits (negsuc down) (negsuc k) is within = omega (arith, within, power_sum (suc k) 12 (suc down) (omega (arith, ints)))

past_all : (x k : ℕ) → 36 < k → x < 10 ^ 36 → x < 10 ^ k
past_all x k far few = let ten : 0 < 10 = omega arith in let le : 36 ≤ k = omega arith in let h : 10 ^ 36 ≤ 10 ^ k = pow-le-pow_right ten le in omega (arith, h)

small_quotient : (x n : ℕ) → x < n → (x / n ≡ 0) × (div_ceil x n ≡ min 1 x)
small_quotient x n few = (div-eq_of_lt few, ap₂ (λ (q r : ℕ). q + min 1 r) (div-eq_of_lt few) (mod-eq_of_lt few) ∙ zero-add (min 1 x))

-- To divide fewer than 37 digits by a power of ten past 10^36 gives the same as to divide by 10^36.
pub divide_capped : (x k : ℕ) → x < 10 ^ 36 → (x / 10 ^ min k 36 ≡ x / 10 ^ k) × (div_ceil x (10 ^ min k 36) ≡ div_ceil x (10 ^ k))
divide_capped x k few = ⊎_elim
    (λ (far : 36 < k).
    let cap : min k 36 ≡ 36 = omega arith in
    let near = small_quotient x (10 ^ 36) few in
    let far2 = small_quotient x (10 ^ k) (past_all x k far few) in
    (ap (λ (j : ℕ). x / 10 ^ j) cap ∙ near.0 ∙ sym far2.0, ap (λ (j : ℕ). div_ceil x (10 ^ j)) cap ∙ near.1 ∙ sym far2.1))
    (λ (near : k ≤ 36). let same : min k 36 ≡ k = omega arith in (ap (λ (j : ℕ). x / 10 ^ j) same, ap (λ (j : ℕ). div_ceil x (10 ^ j)) same))
    (cases_lt 36 k)

-- The quotient of the code is the magnitude in units, rounded down.
pub divided_below : (x : ℕ) (scale : ℤ) (d : ℕ) → x < 10 ^ 36 → scale <ℤ pos 0 → d ≡ 10 ^ min (unsigned_abs scale) 36 → x / d ≡ magnitude_below x scale
divided_below x (pos up) d few low is = absurd (omega (arith, ints))
divided_below x (negsuc down) d few low is = ap (λ (n : ℕ). x / n) is ∙ (divide_capped x (suc down) few).0

-- The quotient of the code, rounded up, is the magnitude in units, rounded up.
pub divided_above : (x : ℕ) (scale : ℤ) (d : ℕ) → x < 10 ^ 36 → scale <ℤ pos 0 → d ≡ 10 ^ min (unsigned_abs scale) 36 → div_ceil x d ≡ magnitude_above x scale
divided_above x (pos up) d few low is = absurd (omega (arith, ints))
divided_above x (negsuc down) d few low is = ap (λ (n : ℕ). div_ceil x n) is ∙ (divide_capped x (suc down) few).1

-- a scale of 0 or more: the product stays within the limit, and so does the power, but for 0
pub scaled_value : (x : ℕ) (scale : ℤ) (k : ℕ) → pos k ≡ scale → (x * 10 ^ k ≡ magnitude_below x scale) × (x * 10 ^ k ≡ magnitude_above x scale)
scaled_value x (pos up) k is = let same : k ≡ up = omega (arith, ints) in (ap (λ (j : ℕ). x * 10 ^ j) same, ap (λ (j : ℕ). x * 10 ^ j) same)
scaled_value x (negsuc down) k is = absurd (omega (arith, ints))

-- Scaled up, a magnitude within the limit is at most 10^18 units.
pub scaled_small : (x : ℕ) (scale : ℤ) (k : ℕ) → pos k ≡ scale → IsWithin (10 ^ 18) x scale → x * 10 ^ k ≤ 10 ^ 18
scaled_small x (pos up) k is within = let same : k ≡ up = omega (arith, ints) in rw same within
scaled_small x (negsuc down) k is within = absurd (omega (arith, ints))

-- The power that a number other than 0 is scaled by is at most 10^18, as the product is.
pub power_within : (x k : ℕ) → 0 < x → x * 10 ^ k ≤ 10 ^ 18 → 10 ^ k ≤ 10 ^ 18
power_within x k some within = let h : 1 * 10 ^ k ≤ x * 10 ^ k = mul-le-mul_right (10 ^ k) (let l : 1 ≤ x = omega arith in l) in omega (arith, h)

-- The digits 0 stay 0 at each scale.
pub zero_scaled : (scale : ℤ) → pos 0 ≤ℤ scale → (0 ≡ magnitude_below 0 scale) × (0 ≡ magnitude_above 0 scale)
zero_scaled (pos up) h = (sym (zero-mul (10 ^ up)), sym (zero-mul (10 ^ up)))
zero_scaled (negsuc down) h = absurd (omega (arith, ints))

-- below the limit on both sides
pub below_small : (x : ℕ) (scale : ℤ) → IsWithin (10 ^ 18) x scale → (magnitude_below x scale ≤ magnitude_above x scale) × (magnitude_above x scale ≤ 10 ^ 18)
below_small x (pos up) within = (le_refl (x * 10 ^ up), within)
below_small x (negsuc down) within =
    let some : 0 < 10 ^ suc down = power_some (suc down) in
    (floor_below_ceil x x (10 ^ suc down) some (le_refl x), ceil_at_most x (10 ^ suc down) (10 ^ 18) some within)

-- the cast of a number of units
pub cast_units : (m n : ℕ) → m ≡ n → n ≤ 10 ^ 18 → to_z w128 m ≡ pos n
cast_units m n is small = let fits : m < 2 ^ 127 = omega arith in to_z_pos w128 m fits ∙ ap pos is

-- the ends of a decimal's interval, as the code has them
pub positive_interval : (digits : ℕ) (s lo hi : ℤ) → lo ≡ pos (magnitude_below digits s) → hi ≡ pos (magnitude_above digits s) → IsWithin (10 ^ 18) digits s → IsInterval (read lo) (read hi)
positive_interval digits s lo hi lo_is hi_is within =
    let small = below_small digits s within in
    record {
      ordered = omega (arith, ints, small);
      lo_limited = omega (arith, ints, small);
      hi_limited = omega (arith, ints, small);
    }

-- Turned round and negated, the ends of a magnitude are those of an interval.
pub negative_interval : (digits : ℕ) (s lo hi : ℤ) → lo ≡ pos (magnitude_below digits s) → hi ≡ pos (magnitude_above digits s) → IsWithin (10 ^ 18) digits s → IsInterval (read (pos 0 -ℤ read hi)) (read (pos 0 -ℤ read lo))
negative_interval digits s lo hi lo_is hi_is within =
    let small = below_small digits s within in
    record {
      ordered = omega (arith, ints, small);
      lo_limited = omega (arith, ints, small);
      hi_limited = omega (arith, ints, small);
    }

-- ---- the digits of a decimal
-- At most 36 digits before the point are below 10^36.
pub whole_room : (w : ℕ) → w ≤ 36 → (0 + 1) * 10 ^ w ≤ 10 ^ 36
whole_room w few = let ten : 0 < 10 = omega arith in let h : 10 ^ w ≤ 10 ^ 36 = pow-le-pow_right ten few in omega (arith, h)

-- The digits behind the point stay below 10^36 with those before it, where they are at most 36 together.
pub fraction_room : (r w f : ℕ) → r + 1 ≤ (0 + 1) * 10 ^ w → w + f ≤ 36 → (r + 1) * 10 ^ f ≤ 10 ^ 36
fraction_room r w f small few =
    let ten : 0 < 10 = omega arith in
    let h : 10 ^ (w + f) ≤ 10 ^ 36 = pow-le-pow_right ten few in
    let g = mul-le-mul_right (10 ^ f) small in
    omega (arith, h, g, pow-add 10 w f)

-- More than 36 digits are refused.
pub many_digits : (negative : Bool) (w f : List ℕ) (e : ℤ) → 36 < length w + length f → Err TooManyDigits ≡ number_of negative w f e
many_digits negative w f e many =
    let long : 36 < length (w ++ f) = omega (arith, length-append w f) in
    rw (lt-ltb 36 (length (w ++ f)) long) refl

number_case : (negative s t u : Bool) (w f : List ℕ) (e : ℤ) → s ≡ nat_lt 36 (length (w ++ f)) → t ≡ int_lt e (negsuc 98) → u ≡ int_lt (pos 99) e → (t || u) ≡ true → Err TooManyDigits ≡ number_of negative w f e
number_case negative true t u w f e s_is t_is u_is far = rw (← s_is) refl
number_case negative false true u w f e s_is t_is u_is far = rw (← s_is, ← t_is) refl
number_case negative false false true w f e s_is t_is u_is far = rw (← s_is, ← t_is, ← u_is) refl
number_case negative false false false w f e s_is t_is u_is far = absurd (cc)

-- An exponent below -99 or above 99 is refused.
pub far_exponent : (negative : Bool) (w f : List ℕ) (e : ℤ) → (int_lt e (negsuc 98) || int_lt (pos 99) e) ≡ true → Err TooManyDigits ≡ number_of negative w f e
far_exponent negative w f e far = number_case negative (nat_lt 36 (length (w ++ f))) (int_lt e (negsuc 98)) (int_lt (pos 99) e) w f e refl refl refl far

-- A decimal of few digits and a near exponent is what the code makes of its digits and its scale.
pub number_is : (negative : Bool) (w f : List ℕ) (e s : ℤ) (d : ℕ) → length w + length f ≤ 36 → int_lt e (negsuc 98) ≡ false → int_lt (pos 99) e ≡ false
    → d ≡ digits_value_after 10 (digits_value_after 10 0 w) f → s ≡ (e -ℤ pos (length f)) → scaled_of negative d s ≡ number_of negative w f e
number_is negative w f e s d few low high digits_are scale_is =
    let short : length (w ++ f) ≤ 36 = omega (arith, length-append w f) in
    rw (le-ltb 36 (length (w ++ f)) short, low, high) (ap₂ (scaled_of negative) (digits_are ∙ sym (after_append 0 w f)) scale_is)

parts_as : (negative : Bool) (w f : List ℕ) (e : ℤ) (t : Bool) (o : Option ℤ) → t ≡ true → Some e ≡ o → cond t (with_exponent negative w f o) (Err NotDecimal) ≡ number_of negative w f e
parts_as negative w f e t o t_is o_is = rw (t_is, ← o_is) refl

unsigned_as : (negative : Bool) (u w f : List ℕ) (e : ℤ) → w ≡ whole_part u → f ≡ fraction_part u → is_mantissa w f ≡ true → Some e ≡ exponent_part u → unsigned_of negative u ≡ number_of negative w f e
unsigned_as negative u w f e w_is f_is mantissa e_is =
    let both = ap₂ (λ (x y : List ℕ). cond (is_mantissa x y) (with_exponent negative x y (exponent_part u)) (Err NotDecimal)) (sym w_is) (sym f_is) in
    both ∙ parts_as negative w f e (is_mantissa w f) (exponent_part u) mantissa e_is

-- a text in the grammar reads as the number of its parts
pub unsigned_reads : (u m w f : List ℕ) (e : ℤ) (negative : Bool) → m ≡ before_first is_mark u → w ≡ before_first is_point m → f ≡ after_first is_point m
    → are_digits w ≡ true → are_digits f ≡ true → 0 < length w + length f → Some e ≡ exponent_part u → number_of negative w f e ≡ unsigned_of negative u
unsigned_reads u m w f e negative m_is w_is f_is w_digits f_digits some e_is =
    let w_same : w ≡ whole_part u = w_is ∙ ap (before_first is_point) m_is in
    let f_same : f ≡ fraction_part u = f_is ∙ ap (after_first is_point) m_is in
    let all : are_digits (w ++ f) ≡ true = list_all-append is_ascii_digit w f ∙ ap₂ (λ (a b : Bool). a && b) w_digits f_digits in
    let long : nat_lt 0 (length (w ++ f)) ≡ true = lt-ltb 0 (length (w ++ f)) (omega (arith, length-append w f)) in
    let mantissa : is_mantissa w f ≡ true = ap₂ (λ (a b : Bool). a && b) all long in
    sym (unsigned_as negative u w f e w_same f_same mantissa e_is)

-- A text, parted at its sign, its mark and its point, reads as the number of these parts.
pub reads_as : (text u m w f : List ℕ) (e : ℤ) (negative : Bool) → negative ≡ starts_with_minus text → u ≡ without_leading_sign text → m ≡ before_first is_mark u → w ≡ before_first is_point m → f ≡ after_first is_point m
    → are_digits w ≡ true → are_digits f ≡ true → 0 < length w + length f → Some e ≡ exponent_part u → number_of negative w f e ≡ decimal_of text
reads_as text u m w f e negative negative_is u_is m_is w_is f_is w_digits f_digits some e_is =
    unsigned_reads u m w f e negative m_is w_is f_is w_digits f_digits some e_is ∙ ap₂ unsigned_of negative_is u_is
