-- How the values of options are tested: whole numbers by their digits, and decimals for being at most 1.
use Rattle.std.proofs.Common.{◌≡◌, ◌≢◌, ◌∙◌, refl, sym, ℕ, ℤ, zero, suc, pos, negsuc, ◌-ℤ◌, ◌+◌, ◌-◌, ◌*◌, ◌^◌, ◌<◌, ◌≤◌, ◌<ℤ◌, true, List, length, arith, zero-mul}
use Rattle.std.specs.Prelude.{nat_le, ◌==◌}
use Rattle.std.proofs.lemmas.Bool.{le-leb, lt-leb, ne_eqb}
use Rattle.std.proofs.lemmas.Int.{ints}
use Rattle.std.proofs.Math.Nat.{pow-le-pow_right, mul-le-mul_left, mul-le-mul_right}
use Rattle.psa_number.specs.DecimalText.{is_within}
use Rattle.psa_number.proofs.DigitLemmas.{IsReadSoFar}

-- 13 digits leave room
pub digits_room : (value i : ℕ) (digits : List ℕ) → i < length digits → IsReadSoFar 0 value i digits → length digits ≤ 13 → (value + 1) * 10 ≤ 10 ^ 13
digits_room value i digits le so_far few =
    let ten : 1 ≤ length digits - i = omega arith in
    let some : 0 < 10 = omega arith in
    let h1 : 10 ^ 1 ≤ 10 ^ (length digits - i) = pow-le-pow_right some ten in
    let h2 : (value + 1) * 10 ^ 1 ≤ (value + 1) * 10 ^ (length digits - i) = mul-le-mul_left (value + 1) h1 in
    let h3 : 10 ^ length digits ≤ 10 ^ 13 = pow-le-pow_right some few in
    omega (arith, h2, so_far.room, h3)

one_up : (digits up : ℕ) → 0 < up → (digits == 0) ≡ nat_le (digits * 10 ^ up) 1
one_up zero up far = rw zero-mul (sym (le-leb 0 1 (omega arith)))
one_up (suc digits) up far =
    let some : 0 < 10 = omega arith in
    let h1 : 10 ^ 1 ≤ 10 ^ up = pow-le-pow_right some far in
    let h2 : 1 * 10 ^ up ≤ suc digits * 10 ^ up = mul-le-mul_right (10 ^ up) (let l : 1 ≤ suc digits = omega arith in l) in
    let above : 1 < suc digits * 10 ^ up = omega (arith, h1, h2) in
    let apart : suc digits ≢ 0 = λ e. absurd (omega (arith, e)) in
    ne_eqb (suc digits) 0 apart ∙ sym (lt-leb (suc digits * 10 ^ up) 1 above)

-- A decimal with a positive exponent is at most 1 exactly where its digits are 0.
pub one_far : (digits : ℕ) (e : ℤ) → pos 0 <ℤ e → (digits == 0) ≡ is_within 1 digits e
one_far digits (pos up) far = one_up digits up (omega (arith, ints))
one_far digits (negsuc down) far = absurd (omega (arith, ints))

-- A decimal of fewer than 37 digits is at most 1 where its exponent is below -36.
pub one_low : (digits : ℕ) (e : ℤ) → digits < 10 ^ 36 → e <ℤ negsuc 35 → true ≡ is_within 1 digits e
one_low digits (pos up) few low = absurd (omega (arith, ints))
one_low digits (negsuc down) few low =
    let some : 0 < 10 = omega arith in
    let far : 36 ≤ suc down = omega (arith, ints) in
    let h1 : 10 ^ 36 ≤ 10 ^ suc down = pow-le-pow_right some far in
    sym (le-leb digits (1 * 10 ^ suc down) (omega (arith, h1)))

-- A decimal is at most 1 exactly where its digits are at most ten to the power of its negated exponent.
pub one_mid : (digits : ℕ) (e : ℤ) (k : ℕ) → pos k ≡ (pos 0 -ℤ e) → nat_le digits (10 ^ k) ≡ is_within 1 digits e
one_mid digits (pos up) k is =
    let none : up ≡ 0 = omega (arith, ints) in let same : k ≡ 0 = omega (arith, ints) in
    let both : digits * 10 ^ 0 ≡ digits = omega arith in rw (none, same, both) refl
one_mid digits (negsuc down) k is =
    let same : k ≡ suc down = omega (arith, ints) in
    let both : 1 * 10 ^ suc down ≡ 10 ^ suc down = omega arith in rw (same, both) refl

-- The powers of ten up to 10^36 fit in 128 bits.
pub power_small : (k : ℕ) → k ≤ 36 → 10 ^ k < 2 ^ 128
power_small k le = let some : 0 < 10 = omega arith in let h : 10 ^ k ≤ 10 ^ 36 = pow-le-pow_right some le in omega (arith, h)
