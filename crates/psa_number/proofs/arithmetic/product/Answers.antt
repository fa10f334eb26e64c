use Rattle.std.proofs.Common.{ℤ, ◌≡◌, ◌^◌, ◌*ℤ◌, ◌≤◌, unsigned_abs, arith}
use Rattle.std.proofs.lemmas.Int.{fits_signed_mul, unsigned_abs-mul, to_z-of_z}
use Rattle.std.proofs.lemmas.Nat.{mul-le}
use Rattle.std.specs.Int.{w128}
use Rattle.psa_number.proofs.SignedLemmas.{read, read_end}
use Rattle.psa_number.proofs.arithmetic.product.Goals as goal

read_product : (x y : ℤ) → unsigned_abs x ≤ 10 ^ 18 → unsigned_abs y ≤ 10 ^ 18 → read (read x *ℤ read y) ≡ (x *ℤ y)
read_product x y small_x small_y =
    rw (read_end x (omega (arith, small_x)), read_end y (omega (arith, small_y))) (to_z-of_z w128 (x *ℤ y) (fits_signed_mul w128 x y (10 ^ 18) (10 ^ 18) small_x small_y (omega arith)))

small_product : (x y : ℤ) → unsigned_abs x ≤ 10 ^ 18 → unsigned_abs y ≤ 10 ^ 18 → unsigned_abs (x *ℤ y) ≤ 10 ^ 36
small_product x y small_x small_y = rw (unsigned_abs-mul x y) (mul-le (unsigned_abs x) (unsigned_abs y) (10 ^ 18) (10 ^ 18) small_x small_y)

pub returns-clause-exact : goal.returns-clause-exact
returns-clause-exact c = read_product c.args.x c.args.y c.requires.left c.requires.right

pub returns-clause-small : goal.returns-clause-small
returns-clause-small c = rw (read_product c.args.x c.args.y c.requires.left c.requires.right) (small_product c.args.x c.args.y c.requires.left c.requires.right)
