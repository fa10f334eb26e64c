use Rattle.std.proofs.Common.{◌≡◌, map, take, drop}
use Rattle.psa_model.specs.RankFaults.{rank_fault}
use Rattle.psa_model.specs.Ranks.{ranks_of}
use Rattle.psa_load.proofs.analysis.rank_targets.Given as goal

abbrev pub invariant-loop-target : goal.invariant-loop-target
invariant-loop-target l = record {
  ranked : l.ranks ≡ map (ranks_of l.expanded) (take l.target-index l.targets);
  sound : rank_fault l.expanded (drop l.target-index l.targets) ≡ rank_fault l.expanded l.targets;
}
