use Rattle.std.proofs.Common.{◌+◌, ◌*◌}
use Rattle.psa_prep.proofs.LoweringLemmas.{MadeSome}
use Rattle.psa_prep.proofs.lowering.+lowering.Given as goal

abbrev pub decreases-lower : goal.decreases-lower
decreases-lower l = 3 * l.depth + 1

abbrev pub decreases-lower_gate : goal.decreases-lower_gate
decreases-lower_gate l = 3 * l.depth

abbrev pub decreases-lower_all : goal.decreases-lower_all
decreases-lower_all l = 3 * l.depth + 2

abbrev pub invariant-lower_all-loop-place : goal.invariant-lower_all-loop-place
invariant-lower_all-loop-place l = MadeSome l.context l.operator l.arguments l.signs l.place l.fn.builder l.builder l.pairs.items
