use Rattle.std.proofs.Common.{take}
use Rattle.std.specs.List.{flat_map}
use Rattle.psa_prep.specs.Ranking.{RanksList, step_visits}
use Rattle.psa_prep.proofs.ranking.rank_paths.Given as goal

abbrev pub invariant-loop-path : goal.invariant-loop-path
invariant-loop-path l = RanksList l.walk.expanded.now (flat_map (λ path. flat_map (step_visits l.walk.expanded.now) path) (take l.path-index l.paths)) l.fn.ranking l.ranking
