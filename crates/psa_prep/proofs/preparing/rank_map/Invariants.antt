use Rattle.std.proofs.Common.{◌≤◌, length}
use Rattle.psa_prep.proofs.TargetLemmas.{RanksFrom}
use Rattle.psa_prep.proofs.preparing.rank_map.Given as goal

abbrev pub decreases-loop-left : goal.decreases-loop-left
decreases-loop-left l = l.left

abbrev pub invariant-loop-left : goal.invariant-loop-left
invariant-loop-left l = record { within : l.left ≤ length l.ranks; ranked : RanksFrom l.ranks l.left l.map }
