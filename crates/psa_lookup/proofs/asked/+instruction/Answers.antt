use Rattle.std.proofs.Common.{◌≡◌, ◌++◌, List, flat_map, refl, sym, ap, ◌∙◌}
use Rattle.psa_names.specs.Chains.{references_in}
use Rattle.psa_names.specs.Outlines.{Reference, instruction_outline, test_outline}
use Rattle.psa_model.specs.declared.draft.DraftInstruction.{DraftInstruction}
use Rattle.psa_lookup.specs.Asking.{asked_references}
use Rattle.psa_lookup.proofs.StateLemmas.{on-ok}
use Rattle.psa_lookup.proofs.AskedLemmas.{in-block, in-if, two-added, more-added}
use Rattle.psa_lookup.proofs.asked.+instruction.Goals as goal

pub push_instruction-returns-in-Block : goal.push_instruction-returns-in-Block
push_instruction-returns-in-Block t c =
    on-ok c.push_instructions.result
    (λ (made : asked_references c.push_instructions.new.asked.items ≡ asked_references c.args.asked.now.items ++ flat_map (λ one. references_in (instruction_outline one)) c.as_slice.result.now).
    made ∙ ap (λ (l : List Reference). asked_references c.args.asked.now.items ++ l)
    (ap (flat_map (λ one. references_in (instruction_outline one))) c.as_slice.ensures ∙ sym (in-block c.in-Block.inside) ∙ ap (λ e. references_in (instruction_outline e)) (sym c.in-Block.is)))
    c.push_instructions.ensures

pub push_instructions-loop-instruction-preserved : goal.push_instructions-loop-instruction-preserved
push_instructions-loop-instruction-preserved t c =
    more-added (λ one. references_in (instruction_outline one)) _ _ _ c.args.instructions.now c.loop-instruction.instruction-index c.instruction-item.result c.loop-instruction-test.true c.instruction-item.is c.loop-instruction.invariant c.in_ok-push_instruction.ensures

pub push_instruction-returns-in_ok-push_instructions-in-If : goal.push_instruction-returns-in_ok-push_instructions-in-If
push_instruction-returns-in_ok-push_instructions-in-If t c =
    let its : List DraftInstruction → List Reference = λ all. flat_map (λ one. references_in (instruction_outline one)) all in
    let old = asked_references c.args.asked.now.items in
    on-ok c.push_instructions-in-If-2.result
    (λ (made : asked_references c.push_instructions-in-If-2.new.asked.items ≡ asked_references c.push_instructions-in-If.new.asked.items ++ its c.as_slice-in-If-2.result.now).
    two-added old (asked_references c.push_test.new.asked.items) (asked_references c.push_instructions-in-If-2.new.asked.items)
    (references_in (test_outline c.in-If.test)) (its c.in-If.first ++ its c.in-If.second) (references_in (instruction_outline c.args.instruction.now))
    c.in_ok-push_test-in-If.ensures
    (two-added (asked_references c.push_test.new.asked.items) (asked_references c.push_instructions-in-If.new.asked.items) (asked_references c.push_instructions-in-If-2.new.asked.items)
    (its c.in-If.first) (its c.in-If.second) (its c.in-If.first ++ its c.in-If.second)
    (c.in_ok-push_instructions-in-If.ensures ∙ ap (λ all. asked_references c.push_test.new.asked.items ++ its all) c.as_slice-in-If.ensures)
    (made ∙ ap (λ all. asked_references c.push_instructions-in-If.new.asked.items ++ its all) c.as_slice-in-If-2.ensures) refl)
    (ap (λ e. references_in (instruction_outline e)) c.in-If.is ∙ in-if c.in-If.test c.in-If.first c.in-If.second))
    c.push_instructions-in-If-2.ensures
