use Rattle.std.proofs.Common.{◌*◌, ◌≤◌, arith}
use Rattle.std.proofs.Math.Nat.{mul-le-mul_right}
use Rattle.psa_text.proofs.scanner.ByteFacts.{digits_fit, more_digits}
use Rattle.psa_text.proofs.scanner.bytes.with_digit.Goals as goal

pub overflow_mul-grown : goal.overflow_mul-grown
overflow_mul-grown c =
    let product : c.args.base * c.args.number ≤ 16 * c.args.number = mul-le-mul_right c.args.number c.requires.base in
    omega (arith, product, digits_fit c.args.number c.args.digits c.requires.number c.requires.few)

pub overflow_add-result : goal.overflow_add-result
overflow_add-result c =
    let product : c.args.base * c.args.number ≤ 16 * c.args.number = mul-le-mul_right c.args.number c.requires.base in
    omega (arith, product, digits_fit c.args.number c.args.digits c.requires.number c.requires.few)

pub returns-clause-fits : goal.returns-clause-fits
returns-clause-fits c =
    let product : c.args.base * c.args.number ≤ 16 * c.args.number = mul-le-mul_right c.args.number c.requires.base in
    omega (arith, product, more_digits c.args.number c.args.digits 15 c.requires.number (omega arith))
