use Rattle.std.proofs.Common.{◌+◌, ◌*◌, take}
use Rattle.psa_prep.proofs.WalkLemmas.{AllRanked}
use Rattle.psa_prep.proofs.ranking.+ranking.Given as goal

abbrev pub decreases-rank_formula : goal.decreases-rank_formula
decreases-rank_formula l = 3 * l.depth + 1

abbrev pub decreases-rank_formulas : goal.decreases-rank_formulas
decreases-rank_formulas l = 3 * l.depth + 2

abbrev pub decreases-rank_gate : goal.decreases-rank_gate
decreases-rank_gate l = 3 * l.depth

abbrev pub invariant-rank_formulas-loop-formula : goal.invariant-rank_formulas-loop-formula
invariant-rank_formulas-loop-formula l = AllRanked l.walk.expanded.now (take l.formula-index l.formulas) l.fn.ranking l.ranking
