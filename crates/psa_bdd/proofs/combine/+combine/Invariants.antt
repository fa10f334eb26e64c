use Rattle.psa_bdd.proofs.LevelLemmas.{left_above}
use Rattle.psa_bdd.proofs.combine.+combine.Given as goal

abbrev pub decreases-combine : goal.decreases-combine
decreases-combine g l = left_above l.table.now.nodes l.left.0 l.right.0
