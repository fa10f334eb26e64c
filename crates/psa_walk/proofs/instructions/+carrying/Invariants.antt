use Rattle.std.proofs.Common.{◌≡◌, ◌≤◌, ◌+◌, ◌*◌, drop}
use Rattle.psa_model.specs.Paths.{carried}
use Rattle.psa_walk.proofs.instructions.+carrying.Given as goal

abbrev pub decreases-carry_out : goal.decreases-carry_out
decreases-carry_out l = 2 * l.left

abbrev pub decreases-carry_out_all : goal.decreases-carry_out_all
decreases-carry_out_all l = 2 * l.left + 1

abbrev pub invariant-carry_out_all-loop-instruction : goal.invariant-carry_out_all-loop-instruction
invariant-carry_out_all-loop-instruction l = record {
  same : carried l.rest l.walk.model.now l.walk.initiating.0 (drop l.instruction-index l.instructions) l.travelled ≡ carried l.left l.walk.model.now l.walk.initiating.0 l.instructions l.fn.travelled;
  fewer : l.rest ≤ l.left;
}
