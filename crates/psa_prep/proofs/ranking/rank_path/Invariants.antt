use Rattle.std.proofs.Common.{take}
use Rattle.std.specs.List.{flat_map}
use Rattle.psa_prep.specs.Ranking.{RanksList, step_visits}
use Rattle.psa_prep.proofs.ranking.rank_path.Given as goal

abbrev pub invariant-loop-step : goal.invariant-loop-step
invariant-loop-step l = RanksList l.walk.expanded.now (flat_map (step_visits l.walk.expanded.now) (take l.step-index l.path)) l.fn.ranking l.ranking
