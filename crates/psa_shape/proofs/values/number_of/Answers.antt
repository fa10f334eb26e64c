use Rattle.std.proofs.Common.{◌<◌, length, get_or, arith}
use Rattle.psa_number.proofs.DigitLemmas.{read_none, read_next, digit_at, digit_of}
use Rattle.psa_shape.proofs.ValueLemmas.{digits_room}
use Rattle.psa_shape.proofs.values.number_of.Goals as goal

pub loop-digit-init : goal.loop-digit-init
loop-digit-init c = read_none 0 c.args.digits.now

pub overflow_mul-number : goal.overflow_mul-number
overflow_mul-number c =
    let le : c.loop-digit.digit-index < length c.args.digits.now = omega arith in
    let h = digits_room c.loop-digit.number c.loop-digit.digit-index c.args.digits.now le c.loop-digit.invariant
    c.requires.few in
    omega (arith, h)

pub overflow_add-number : goal.overflow_add-number
overflow_add-number c =
    let le : c.loop-digit.digit-index < length c.args.digits.now = omega arith in
    let h = digits_room c.loop-digit.number c.loop-digit.digit-index c.args.digits.now le c.loop-digit.invariant
    c.requires.few in
    let g = digit_of (get_or c.args.digits.now c.loop-digit.digit-index 0)
    (digit_at c.args.digits.now c.loop-digit.digit-index le c.requires.only_digits) in
    omega (arith, h, g, c.from.ensures)

pub loop-digit-preserved : goal.loop-digit-preserved
loop-digit-preserved c =
    let le : c.loop-digit.digit-index < length c.args.digits.now = omega arith in
    rw c.from.ensures (read_next 0 c.loop-digit.number c.loop-digit.digit-index c.args.digits.now le
    c.requires.only_digits c.loop-digit.invariant)
