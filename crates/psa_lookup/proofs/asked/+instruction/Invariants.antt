use Rattle.std.proofs.Common.{◌≡◌, ◌++◌, flat_map, take}
use Rattle.psa_names.specs.Chains.{references_in}
use Rattle.psa_names.specs.Outlines.{instruction_outline}
use Rattle.psa_lookup.specs.Asking.{asked_references}
use Rattle.psa_lookup.proofs.asked.+instruction.Given as goal

abbrev pub invariant-push_instructions-loop-instruction : goal.invariant-push_instructions-loop-instruction
invariant-push_instructions-loop-instruction l =
    asked_references l.asked.items ≡ asked_references l.fn.asked.items ++ flat_map (λ one. references_in (instruction_outline one)) (take l.instruction-index l.instructions)
