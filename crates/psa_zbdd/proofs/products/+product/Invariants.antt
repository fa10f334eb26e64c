use Rattle.std.proofs.Common.{◌-◌, ◌*◌, ◌^◌}
use Rattle.psa_families.proofs.LevelLemmas.{left_above}
use Rattle.psa_zbdd.proofs.products.+product.Given as goal

abbrev pub decreases-product : goal.decreases-product
decreases-product g l = 2 * left_above l.table.now.nodes l.left.0 l.right.0

abbrev pub decreases-with_variable : goal.decreases-with_variable
decreases-with_variable g l = 2 * (2 ^ 33 - l.sides.var) - 1
