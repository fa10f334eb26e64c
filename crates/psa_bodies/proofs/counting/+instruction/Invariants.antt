use Rattle.std.proofs.Common.{◌≡◌, length, take}
use Rattle.std.specs.List.{flat_map}
use Rattle.psa_names.specs.Collected.{collected_by}
use Rattle.psa_bodies.proofs.counting.+instruction.Given as goal

abbrev pub invariant-count_instructions-loop-instruction : goal.invariant-count_instructions-loop-instruction
invariant-count_instructions-loop-instruction l = l.count ≡ length (flat_map collected_by (take l.instruction-index l.instructions))
