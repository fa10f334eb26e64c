use Rattle.std.proofs.Common.{map, take}
use Rattle.std.specs.List.{flat_map}
use Rattle.psa_names.specs.Outlines.{instruction_outline}
use Rattle.psa_names.specs.Chains.{references_in}
use Rattle.psa_names.specs.Collected.{collected_by, resolved_instruction}
use Rattle.psa_bodies.specs.Collecting.{Collects, listed}
use Rattle.psa_bodies.proofs.instructions.+instruction.Given as goal

abbrev pub invariant-resolve_instructions-loop-instruction : goal.invariant-resolve_instructions-loop-instruction
invariant-resolve_instructions-loop-instruction l =
    Collects l.numbers l.initial.cursor l.cursor l.initial.collected l.collected
    (flat_map (λ one. references_in (instruction_outline one)) (take l.instruction-index l.instructions)) (flat_map collected_by (take l.instruction-index l.instructions))
    (λ entries from. listed (map (resolved_instruction entries from) (take l.instruction-index l.instructions))) l.made
