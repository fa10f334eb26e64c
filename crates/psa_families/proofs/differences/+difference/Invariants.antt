use Rattle.psa_families.proofs.LevelLemmas.{left_above}
use Rattle.psa_families.proofs.differences.+difference.Given as goal

abbrev pub decreases-difference : goal.decreases-difference
decreases-difference g l = left_above l.table.now.nodes l.left.0 l.right.0
