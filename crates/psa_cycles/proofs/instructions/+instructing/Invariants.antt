use Rattle.std.proofs.Common.{◌≡◌, ◌+◌, ◌*◌, map, take}
use Rattle.psa_model.specs.Drafts.{instruction_contents, together}
use Rattle.psa_names.specs.Outlines.{instruction_outline, joined}
use Rattle.psa_cycles.specs.Levels.{with_outlines}
use Rattle.psa_cycles.proofs.instructions.+instructing.Given as goal

abbrev pub decreases-push_instruction : goal.decreases-push_instruction
decreases-push_instruction l = 2 * (instruction_contents l.instruction.now).nesting

abbrev pub decreases-push_instructions : goal.decreases-push_instructions
decreases-push_instructions l = 2 * (together (map instruction_contents l.instructions.now)).nesting + 1

abbrev pub invariant-push_instructions-loop-instruction : goal.invariant-push_instructions-loop-instruction
invariant-push_instructions-loop-instruction l = l.levels ≡ with_outlines l.around (joined (map instruction_outline (take l.instruction-index l.instructions))) l.fn.levels
