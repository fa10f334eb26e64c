use Rattle.psa_families.proofs.LevelLemmas.{left_above}
use Rattle.psa_families.proofs.subset_removal.+without.Given as goal

abbrev pub decreases-without : goal.decreases-without
decreases-without g l = left_above l.table.now.nodes l.left.0 l.right.0
