use Rattle.psa_names.specs.Outlines.{instruction_outline}
use Rattle.psa_names.specs.Chains.{references_in}
use Rattle.psa_names.specs.Collected.{collected_by, resolved_instruction}
use Rattle.psa_bodies.proofs.CollectingInOrder.{collects-none, collects-more, collects-all}
use Rattle.psa_bodies.proofs.CollectedForms.{house-collects, rule-collects, block-collects, if-collects}
use Rattle.psa_bodies.proofs.instructions.+instruction.Goals as goal

pub resolve_instructions-loop-instruction-init : goal.resolve_instructions-loop-instruction-init
resolve_instructions-loop-instruction-init t c = collects-none c.args.numbers.now c.args.cursor.now c.args.collected.now (λ entries from one. resolved_instruction entries from one) _ c.new-made.ensures

pub resolve_instructions-loop-instruction-preserved : goal.resolve_instructions-loop-instruction-preserved
resolve_instructions-loop-instruction-preserved t c =
    collects-more c.args.numbers.now c.args.cursor.now c.loop-instruction.cursor c.resolve_instruction.new.cursor c.args.collected.now c.loop-instruction.collected c.resolve_instruction.new.collected (λ one. references_in (instruction_outline one)) collected_by (λ entries from one. resolved_instruction entries from one) c.args.instructions.now c.loop-instruction.instruction-index c.instruction-item.result c.loop-instruction.made c.push.new.self c.in_ok-resolve_instruction.field-0
    c.loop-instruction-test.true c.instruction-item.is c.loop-instruction.invariant c.in_ok-resolve_instruction.ensures c.in_ok-push.ensures.ok

pub resolve_instructions-returns : goal.resolve_instructions-returns
resolve_instructions-returns t c =
    collects-all c.args.numbers.now c.args.cursor.now c.loop-instruction.cursor c.args.collected.now c.loop-instruction.collected (λ one. references_in (instruction_outline one)) collected_by (λ entries from one. resolved_instruction entries from one) c.args.instructions.now c.loop-instruction.instruction-index c.loop-instruction.made c.loop-instruction-test.false c.loop-instruction.invariant

pub resolve_instruction-returns-in-SetHouse : goal.resolve_instruction-returns-in-SetHouse
resolve_instruction-returns-in-SetHouse t c =
    house-collects c.args.numbers.now c.args.cursor.now c.next_id-id.new.cursor c.args.collected.now c.args.instruction.now c.in-SetHouse.field-0 c.in-SetHouse.state c.next_id-id.result c.in-SetHouse.is c.next_id-id.ensures

pub resolve_instruction-returns-in_ok-inside-in-Block : goal.resolve_instruction-returns-in_ok-inside-in-Block
resolve_instruction-returns-in_ok-inside-in-Block t c =
    block-collects c.args.numbers.now c.args.cursor.now c.resolve_instructions.new.cursor c.args.collected.now c.resolve_instructions.new.collected c.args.instruction.now c.in-Block.inside c.as_slice-inside.result.now c.in_ok-inside-in-Block.inside c.in-Block.is c.as_slice-inside.ensures c.in_ok-inside-in-Block.ensures

pub resolve_instruction-returns-in-Rule : goal.resolve_instruction-returns-in-Rule
resolve_instruction-returns-in-Rule t c =
    rule-collects c.args.numbers.now c.args.cursor.now c.next_id-id-in-Rule.new.cursor c.args.collected.now c.args.instruction.now c.in-Rule.field-0 c.next_id-id-in-Rule.result c.in-Rule.is c.next_id-id-in-Rule.ensures

pub resolve_instruction-returns-in_ok-second-in-If : goal.resolve_instruction-returns-in_ok-second-in-If
resolve_instruction-returns-in_ok-second-in-If t c =
    if-collects c.args.numbers.now c.args.cursor.now c.resolve_test.new.cursor c.resolve_instructions-in-If.new.cursor c.resolve_instructions-in-If-2.new.cursor c.args.collected.now c.resolve_instructions-in-If.new.collected c.resolve_instructions-in-If-2.new.collected c.args.instruction.now c.in-If.test c.in-If.first c.in-If.second c.as_slice-first.result.now c.as_slice-second.result.now c.in_ok-test-in-If.test c.in_ok-first-in-If.first c.in_ok-second-in-If.second
    c.in-If.is c.as_slice-first.ensures c.as_slice-second.ensures c.in_ok-test-in-If.ensures c.in_ok-first-in-If.ensures c.in_ok-second-in-If.ensures
