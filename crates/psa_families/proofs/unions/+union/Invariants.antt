use Rattle.psa_families.proofs.LevelLemmas.{left_above}
use Rattle.psa_families.proofs.unions.+union.Given as goal

abbrev pub decreases-union : goal.decreases-union
decreases-union g l = left_above l.table.now.nodes l.left.0 l.right.0
