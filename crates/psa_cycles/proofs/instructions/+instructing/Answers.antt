use Rattle.std.proofs.Common.{arith, refl}
use Rattle.psa_model.specs.Drafts.{instruction_contents}
use Rattle.psa_names.specs.Outlines.{instruction_outline}
use Rattle.psa_cycles.proofs.AddedElements.{on-ok, pushed-none, pushed-more, pushed-all}
use Rattle.psa_cycles.proofs.RoomInside.{nesting-at}
use Rattle.psa_cycles.proofs.BodyForms.{collect-inside, collect-pushed, set-pushed, block-inside, block-pushed, rule-pushed, if-inside-test, if-inside-first, if-inside-second, if-pushed}
use Rattle.psa_cycles.proofs.instructions.+instructing.Goals as goal

pub push_instructions-push_instruction-requires : goal.push_instructions-push_instruction-requires
push_instructions-push_instruction-requires t c =
    let inside = nesting-at instruction_contents c.args.instructions.now c.args.instructions.now c.loop-instruction.instruction-index c.instruction-item.result refl c.loop-instruction-test.true c.instruction-item.is in
    (omega arith, omega arith)

pub push_instructions-loop-instruction-init : goal.push_instructions-loop-instruction-init
push_instructions-loop-instruction-init t c = pushed-none c.args.around c.args.levels.now

pub push_instructions-loop-instruction-preserved : goal.push_instructions-loop-instruction-preserved
push_instructions-loop-instruction-preserved t c =
    pushed-more instruction_outline c.args.around c.args.instructions.now c.loop-instruction.instruction-index c.instruction-item.result _ _ _ c.loop-instruction-test.true c.instruction-item.is c.loop-instruction.invariant c.in_ok-push_instruction.ensures

pub push_instructions-returns : goal.push_instructions-returns
push_instructions-returns t c = pushed-all instruction_outline c.args.around c.args.instructions.now c.args.instructions.now c.loop-instruction.instruction-index _ _ refl c.loop-instruction-test.false c.loop-instruction.invariant

pub push_instruction-push_formula-requires : goal.push_instruction-push_formula-requires
push_instruction-push_formula-requires t c =
    let inside = collect-inside c.args.instruction.now _ c.in-Collect.is in omega arith

pub push_instruction-returns-in-Collect : goal.push_instruction-returns-in-Collect
push_instruction-returns-in-Collect t c = on-ok c.push_formula.result _ _ (λ h. collect-pushed c.args.around c.args.instruction.now _ c.args.levels.now _ _ c.in-Collect.is c.push_plain.ensures h) c.push_formula.ensures

pub push_instruction-returns-in_ok-push_naming-in-SetHouse : goal.push_instruction-returns-in_ok-push_naming-in-SetHouse
push_instruction-returns-in_ok-push_naming-in-SetHouse t c = set-pushed c.args.around c.args.instruction.now _ _ c.args.levels.now _ _ c.in-SetHouse.is c.in_ok-push_naming-in-SetHouse.ensures c.push_plain-in-SetHouse.ensures

pub push_instruction-push_instructions-requires : goal.push_instruction-push_instructions-requires
push_instruction-push_instructions-requires t c =
    let inside = block-inside c.args.instruction.now c.in-Block.inside c.as_slice.result.now c.in-Block.is c.as_slice.ensures in
    (omega arith, omega arith)

pub push_instruction-returns-in-Block : goal.push_instruction-returns-in-Block
push_instruction-returns-in-Block t c =
    on-ok c.push_instructions.result _ _ (λ h. block-pushed c.args.around c.args.instruction.now c.in-Block.inside c.as_slice.result.now c.args.levels.now _ _ c.in-Block.is c.as_slice.ensures c.push_plain-in-Block.ensures h) c.push_instructions.ensures

pub push_instruction-returns-in-Rule : goal.push_instruction-returns-in-Rule
push_instruction-returns-in-Rule t c = on-ok c.push_naming-in-Rule.result _ _ (λ h. rule-pushed c.args.around c.args.instruction.now _ c.args.levels.now _ c.in-Rule.is h) c.push_naming-in-Rule.ensures

pub push_instruction-push_test-requires : goal.push_instruction-push_test-requires
push_instruction-push_test-requires t c =
    let inside = if-inside-test c.args.instruction.now c.in-If.test c.in-If.first c.in-If.second c.in-If.is in omega arith

pub push_instruction-push_instructions-requires-in-If : goal.push_instruction-push_instructions-requires-in-If
push_instruction-push_instructions-requires-in-If t c =
    let inside = if-inside-first c.args.instruction.now c.in-If.test c.in-If.first c.in-If.second c.as_slice-in-If.result.now c.in-If.is c.as_slice-in-If.ensures in
    (omega arith, omega arith)

pub push_instruction-push_instructions-requires-in-If-2 : goal.push_instruction-push_instructions-requires-in-If-2
push_instruction-push_instructions-requires-in-If-2 t c =
    let inside = if-inside-second c.args.instruction.now c.in-If.test c.in-If.first c.in-If.second c.as_slice-in-If-2.result.now c.in-If.is c.as_slice-in-If-2.ensures in
    (omega arith, omega arith)

pub push_instruction-returns-in_ok-push_instructions-in-If : goal.push_instruction-returns-in_ok-push_instructions-in-If
push_instruction-returns-in_ok-push_instructions-in-If t c =
    on-ok c.push_instructions-in-If-2.result _ _
    (λ h. if-pushed c.args.around c.args.instruction.now c.in-If.test c.in-If.first c.in-If.second c.as_slice-in-If.result.now c.as_slice-in-If-2.result.now c.args.levels.now _ _ _ _ c.in-If.is c.as_slice-in-If.ensures c.as_slice-in-If-2.ensures
    c.push_plain-in-If.ensures c.in_ok-push_test-in-If.ensures c.in_ok-push_instructions-in-If.ensures h)
    c.push_instructions-in-If-2.ensures
