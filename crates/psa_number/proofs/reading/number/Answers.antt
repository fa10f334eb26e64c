use Rattle.std.proofs.Common.{ℕ, ℤ, pos, negsuc, Bool, true, false, ◌≡◌, ◌||◌, ◌+◌, ◌≤◌, ◌-ℤ◌, int_lt, length, to_z, of_z, w16, refl, ap, ◌∙◌, arith}
use Rattle.std.proofs.lemmas.Int.{ints, to_z-of_z}
use Rattle.std.specs.Str.Parse.{digits_value_after}
use Rattle.psa_number.proofs.DigitLemmas.{whole_room, fraction_room, many_digits, far_exponent, number_is}
use Rattle.psa_number.proofs.reading.number.Goals as goal
use Rattle.psa_number.proofs.reading.number.Goals.{then-whole-gt-MAX_DIGITS-via-then-whole-gt-MAX_DIGITS, then-whole-gt-MAX_DIGITS-via-else-whole-gt-MAX_DIGITS+then-fraction-whole, then-exponent-via-then-exponent, then-exponent-via-else-exponent+then-exponent-gt-MAX_EXPONENT}

pub append_digits-requires-clause-room : goal.append_digits-requires-clause-room
append_digits-requires-clause-room c = whole_room (length c.args.whole.now) (omega arith)

pub append_digits-digits-requires-clause-room : goal.append_digits-digits-requires-clause-room
append_digits-digits-requires-clause-room c = fraction_room c.append_digits.result (length c.args.whole.now) (length c.args.fraction.now) c.append_digits.ensures.below (omega arith)

pub scaled-requires-clause-few : goal.scaled-requires-clause-few
scaled-requires-clause-few c =
    let few : length c.args.whole.now + length c.args.fraction.now ≤ 36 = omega arith in
    omega (arith, c.append_digits-digits.ensures.below, fraction_room c.append_digits.result (length c.args.whole.now) (length c.args.fraction.now) c.append_digits.ensures.below few)

pub returns-then-whole-gt-MAX_DIGITS : goal.returns-then-whole-gt-MAX_DIGITS
returns-then-whole-gt-MAX_DIGITS c = elim c.then-whole-gt-MAX_DIGITS.branch [
  | then-whole-gt-MAX_DIGITS-via-then-whole-gt-MAX_DIGITS w ↦ many_digits c.args.negative c.args.whole.now c.args.fraction.now c.args.exponent (omega (arith, w.if-whole-gt-MAX_DIGITS.true))
  | then-whole-gt-MAX_DIGITS-via-else-whole-gt-MAX_DIGITS+then-fraction-whole w ↦ many_digits c.args.negative c.args.whole.now c.args.fraction.now c.args.exponent (omega (arith, w.if-whole-gt-MAX_DIGITS.false, w.if-fraction-whole.true))
]

low_or_high : (s t : Bool) → s ≡ true → (s || t) ≡ true
low_or_high s t is = rw is refl

high_too : (s t : Bool) → t ≡ true → (s || t) ≡ true
high_too true t is = refl
high_too false t is = is

pub returns-then-exponent : goal.returns-then-exponent
returns-then-exponent c = elim c.then-exponent.branch [
  | then-exponent-via-then-exponent w ↦
      far_exponent c.args.negative c.args.whole.now c.args.fraction.now c.args.exponent
      (low_or_high (int_lt c.args.exponent (negsuc 98)) (int_lt (pos 99) c.args.exponent) (rw (to_z-of_z w16 c.args.exponent c.ranges.exponent) at w.if-exponent.true))
  | then-exponent-via-else-exponent+then-exponent-gt-MAX_EXPONENT w ↦
      far_exponent c.args.negative c.args.whole.now c.args.fraction.now c.args.exponent
      (high_too (int_lt c.args.exponent (negsuc 98)) (int_lt (pos 99) c.args.exponent) (rw (to_z-of_z w16 c.args.exponent c.ranges.exponent) at w.if-exponent-gt-MAX_EXPONENT.true))
]

-- the scale, as the code casts it
abbrev scale_of : ℤ → ℕ → ℤ
scale_of e n = to_z w16 (of_z w16 (to_z w16 (of_z w16 e) -ℤ to_z w16 n))

pub returns : goal.returns
returns c =
    let few : length c.args.whole.now + length c.args.fraction.now ≤ 36 = omega arith in
    let low : int_lt c.args.exponent (negsuc 98) ≡ false = rw (to_z-of_z w16 c.args.exponent c.ranges.exponent) at c.if-exponent.false in
    let high : int_lt (pos 99) c.args.exponent ≡ false = rw (to_z-of_z w16 c.args.exponent c.ranges.exponent) at c.if-exponent-gt-MAX_EXPONENT.false in
    let scale_is : scale_of c.args.exponent (length c.args.fraction.now) ≡ (c.args.exponent -ℤ pos (length c.args.fraction.now)) = omega (arith, ints) in
    c.scaled.ensures ∙ number_is c.args.negative c.args.whole.now c.args.fraction.now c.args.exponent (scale_of c.args.exponent (length c.args.fraction.now)) c.append_digits-digits.result few low high
    (c.append_digits-digits.ensures.exact ∙ ap (λ (n : ℕ). digits_value_after 10 n c.args.fraction.now) c.append_digits.ensures.exact) scale_is
