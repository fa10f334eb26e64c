use Rattle.std.proofs.Common.{◌≡◌, ◌+◌, ◌++◌, arith, rules, Bool, Option, Some, None, List, refl, ap, sym, ◌∙◌}
use Rattle.std.proofs.Common.{subst, IfOk, append-nil}
use Rattle.psa_elements.specs.DraftReading as reading
use Rattle.std.specs.Option.{option_or, option_to_list}
use Rattle.psa_text.specs.declared.tree.Element.TheViews as q
use Rattle.psa_draft_parts.specs.Sayings.{reading_among, reading_as, start_tag}
use Rattle.psa_draft_parts.specs.Starts.{around_of}
use Rattle.psa_draft_parts.proofs.Passing.{always-ok, next-fits, child-readable, counted-more, counted-all, picked-more, first-more, inside-all}
use Rattle.std.proofs.Common.{OnOk}
use Rattle.psa_draft_parts.proofs.Passing.{or-none}
use Rattle.psa_draft_parts.proofs.Readings.{among-rest, among-known, among-first}
use Rattle.psa_elements.specs.ElementTable.{instructions, tests}
use Rattle.psa_elements.specs.DraftReading.{Reading, instruction_of, instructions_in, test_of, conditional}
use Rattle.psa_model.specs.declared.draft.DraftFormula.{DraftFormula}
use Rattle.psa_model.specs.declared.draft.DraftInstruction.{DraftInstruction}
use Rattle.psa_model.specs.declared.draft.DraftInstruction.TheVariants as instruction
use Rattle.psa_model.specs.declared.draft.DraftReference.{DraftReference}
use Rattle.psa_model.specs.declared.draft.DraftTest.{DraftTest}
use Rattle.psa_draft_parts.specs.Rows.{row_of_test, row_of_instruction}
use Rattle.psa_draft_parts.specs.declared.rows.InstructionRow.{InstructionRow}
use Rattle.psa_draft_parts.proofs.InstructionSayings as says
use Rattle.psa_draft_parts.proofs.ConditionSayings.{no-instruction}
use Rattle.psa_draft_parts.proofs.steps.+instruction.Goals as goal

pub instructions-overflow_add-reader : goal.instructions-overflow_add-reader
instructions-overflow_add-reader t c =
    omega (arith, next-fits c.args.reader.now.number c.args.element.now c.requires)

pub instructions-instruction_at-requires : goal.instructions-instruction_at-requires
instructions-instruction_at-requires t c = (
  search (rules, q.the_lemmas),
  child-readable c.args.reader.now.number c.args.element.now
      c.as_slice-children.result.now c.loop-child.child-index c.child-item.result c.loop-child.reader.number
      c.requires c.as_slice-children.ensures c.loop-child.invariant.counted c.loop-child-test.true
      c.child-item.is,
)

pub instructions-loop-child-preserved : goal.instructions-loop-child-preserved
instructions-loop-child-preserved t c =
    record {
      counted = counted-more (c.args.reader.now.number + 1) c.as_slice-children.result.now c.loop-child.child-index
          c.child-item.result c.loop-child.reader.number c.instruction_at.new.reader.number
          c.loop-child.invariant.counted c.loop-child-test.true c.child-item.is c.in_ok-found.ensures.counted;
      said = c.in_ok-push_found.ensures ∙ picked-more instruction_of instructions (around_of c.args.around.now)
          (c.args.reader.now.number + 1) c.as_slice-children.result.now c.loop-child.child-index
          c.child-item.result c.loop-child.reader.number c.loop-child.all c.in_ok-found.found
          c.loop-child.invariant.counted c.loop-child-test.true c.child-item.is c.loop-child.invariant.said
          c.in_ok-found.ensures.said;
    }

pub instructions-returns-clause-counted : goal.instructions-returns-clause-counted
instructions-returns-clause-counted t c =
    counted-all c.args.reader.now.number c.args.element.now c.as_slice-children.result.now c.loop-child.child-index
    c.loop-child.reader.number c.as_slice-children.ensures c.loop-child-test.false
    c.loop-child.invariant.counted

pub instructions-returns-clause-said : goal.instructions-returns-clause-said
instructions-returns-clause-said t c =
    c.loop-child.invariant.said ∙ ap (λ (rs : List Reading). instructions_in rs) (inside-all instructions
    (around_of c.args.around.now) c.args.reader.now.number c.args.element.now
    c.as_slice-children.result.now c.loop-child.child-index c.as_slice-children.ensures
    c.loop-child-test.false)

pub instruction_at-returns-in-Some-clause-said : goal.instruction_at-returns-in-Some-clause-said
instruction_at-returns-in-Some-clause-said t c =
    let P : Reading → Type 0 = λ (r : Reading). IfOk c.instruction.result (λ found. found ≡ instruction_of r) in
    subst P (sym (among-known instructions (around_of c.args.around.now) c.args.reader.now.number
    c.args.element.now c.as_str.result.now (Some (row_of_instruction c.in-Some.row)) c.as_str.ensures
    c.in-Some.ensures)) c.instruction.ensures.said

pub instruction_at-returns-in-None-clause-said : goal.instruction_at-returns-in-None-clause-said
instruction_at-returns-in-None-clause-said t c =
    ap instruction_of (sym (among-known instructions (around_of c.args.around.now) c.args.reader.now.number
    c.args.element.now c.as_str.result.now None c.as_str.ensures c.in-None.ensures))

pub instruction-returns-in_ok-formula_in-in-Collect-clause-said :
    goal.instruction-returns-in_ok-formula_in-in-Collect-clause-said
instruction-returns-in_ok-formula_in-in-Collect-clause-said t c =
    ap (λ (f : DraftFormula). Some (instruction.Collect f)) c.in_ok-formula_in-in-Collect.ensures.said ∙ sym
    (says.says-collect (around_of c.args.around.now) c.args.reader.now.number c.args.element.now) ∙ ap (λ
    (r : InstructionRow). instruction_of (reading_as (row_of_instruction r) (around_of c.args.around.now)
    c.args.reader.now.number c.args.element.now)) (sym c.in-Collect.is)

pub instruction-returns-in_ok-reference-in-SetHouse-clause-said :
    goal.instruction-returns-in_ok-reference-in-SetHouse-clause-said
instruction-returns-in_ok-reference-in-SetHouse-clause-said t c =
    ap (λ (r : DraftReference). Some (instruction.SetHouse r c.state_in-state.result))
    c.in_ok-reference-in-SetHouse.ensures ∙ ap (λ (s : Bool). Some (instruction.SetHouse (reading.reference
    (start_tag (around_of c.args.around.now) c.args.reader.now.number c.args.element.now)) s))
    c.state_in-state.ensures.said ∙ sym (says.says-set (around_of c.args.around.now)
    c.args.reader.now.number c.args.element.now) ∙ ap (λ (r : InstructionRow). instruction_of (reading_as
    (row_of_instruction r) (around_of c.args.around.now) c.args.reader.now.number c.args.element.now)) (sym
    c.in-SetHouse.is)

pub instruction-returns-in_ok-instructions-in-Block-clause-said :
    goal.instruction-returns-in_ok-instructions-in-Block-clause-said
instruction-returns-in_ok-instructions-in-Block-clause-said t c =
    ap (λ (is : List DraftInstruction). Some (instruction.Block is)) c.in_ok-instructions-in-Block.ensures.said ∙
    sym (says.says-block (around_of c.args.around.now) c.args.reader.now.number c.args.element.now) ∙ ap (λ
    (r : InstructionRow). instruction_of (reading_as (row_of_instruction r) (around_of c.args.around.now)
    c.args.reader.now.number c.args.element.now)) (sym c.in-Block.is)

pub instruction-returns-in_ok-reference-in-Rule-clause-said :
    goal.instruction-returns-in_ok-reference-in-Rule-clause-said
instruction-returns-in_ok-reference-in-Rule-clause-said t c =
    ap (λ (r : DraftReference). Some (instruction.Rule r)) c.in_ok-reference-in-Rule.ensures ∙ sym (says.says-rule
    (around_of c.args.around.now) c.args.reader.now.number c.args.element.now) ∙ ap (λ (r :
    InstructionRow). instruction_of (reading_as (row_of_instruction r) (around_of c.args.around.now)
    c.args.reader.now.number c.args.element.now)) (sym c.in-Rule.is)

pub instruction-returns-in-If-clause-said : goal.instruction-returns-in-If-clause-said
instruction-returns-in-If-clause-said t c =
    let P : Option DraftInstruction → Type 0 = λ (o : Option DraftInstruction). IfOk c.conditional.result (λ found.
    found ≡ o) in
    subst P (sym (says.says-if (around_of c.args.around.now) c.args.reader.now.number c.args.element.now) ∙ ap (λ
    (r : InstructionRow). instruction_of (reading_as (row_of_instruction r) (around_of c.args.around.now)
    c.args.reader.now.number c.args.element.now)) (sym c.in-If.is)) c.conditional.ensures.said

pub conditional-overflow_add-reader : goal.conditional-overflow_add-reader
conditional-overflow_add-reader t c =
    omega (arith, next-fits c.args.reader.now.number c.args.element.now c.requires)

pub conditional-conditional_part-requires : goal.conditional-conditional_part-requires
conditional-conditional_part-requires t c = (
  search (rules, q.the_lemmas),
  child-readable c.args.reader.now.number c.args.element.now
      c.as_slice-children.result.now c.loop-child.child-index c.child-item.result c.loop-child.reader.number
      c.requires c.as_slice-children.ensures c.loop-child.invariant.counted c.loop-child-test.true
      c.child-item.is,
)

pub conditional-loop-child-preserved : goal.conditional-loop-child-preserved
conditional-loop-child-preserved t c =
    record {
      counted = counted-more (c.args.reader.now.number + 1) c.as_slice-children.result.now c.loop-child.child-index
          c.child-item.result c.loop-child.reader.number c.conditional_part.new.reader.number
          c.loop-child.invariant.counted c.loop-child-test.true c.child-item.is
          c.in_ok-conditional_part.ensures.counted;
      tested = c.in_ok-conditional_part.ensures.tested ∙ first-more test_of (tests ++ instructions) (around_of
          c.args.around.now) (c.args.reader.now.number + 1) c.as_slice-children.result.now
          c.loop-child.child-index c.child-item.result c.loop-child.reader.number c.loop-child.test (test_of
          (reading_among (tests ++ instructions) (around_of c.args.around.now) c.loop-child.reader.number
          c.child-item.result)) c.loop-child.invariant.counted c.loop-child-test.true c.child-item.is
          c.loop-child.invariant.tested refl;
      said = c.in_ok-conditional_part.ensures.said ∙ picked-more instruction_of (tests ++ instructions) (around_of
          c.args.around.now) (c.args.reader.now.number + 1) c.as_slice-children.result.now
          c.loop-child.child-index c.child-item.result c.loop-child.reader.number c.loop-child.inside
          (instruction_of (reading_among (tests ++ instructions) (around_of c.args.around.now)
          c.loop-child.reader.number c.child-item.result)) c.loop-child.invariant.counted
          c.loop-child-test.true c.child-item.is c.loop-child.invariant.said refl;
    }

pub conditional-returns-in-None-clause-counted : goal.conditional-returns-in-None-clause-counted
conditional-returns-in-None-clause-counted t c =
    counted-all c.args.reader.now.number c.args.element.now c.as_slice-children.result.now c.loop-child.child-index
    c.loop-child.reader.number c.as_slice-children.ensures c.loop-child-test.false
    c.loop-child.invariant.counted

pub conditional-returns-in-Some-clause-counted : goal.conditional-returns-in-Some-clause-counted
conditional-returns-in-Some-clause-counted t c =
    always-ok c.if_of.result (counted-all c.args.reader.now.number c.args.element.now
    c.as_slice-children.result.now c.loop-child.child-index c.loop-child.reader.number
    c.as_slice-children.ensures c.loop-child-test.false c.loop-child.invariant.counted)

pub conditional_part-returns-in-Some-clause-tested : goal.conditional_part-returns-in-Some-clause-tested
conditional_part-returns-in-Some-clause-tested t c =
    c.keep_first.ensures ∙ ap (λ (o : Option DraftTest). option_or c.args.test.now o) (c.in_ok-found.ensures.said ∙
    sym (ap test_of (among-first tests instructions (around_of c.args.around.now) c.args.reader.now.number
    c.args.element.now c.as_str.result.now (row_of_test c.in-Some.row) c.as_str.ensures c.in-Some.ensures)))

pub conditional_part-returns-in-Some-clause-said : goal.conditional_part-returns-in-Some-clause-said
conditional_part-returns-in-Some-clause-said t c =
    sym (append-nil c.args.inside.now) ∙ ap (λ (o : Option DraftInstruction). c.args.inside.now ++ option_to_list
    o) (sym (ap instruction_of (among-first tests instructions (around_of c.args.around.now)
    c.args.reader.now.number c.args.element.now c.as_str.result.now (row_of_test c.in-Some.row)
    c.as_str.ensures c.in-Some.ensures) ∙ no-instruction c.in-Some.row (around_of c.args.around.now)
    c.args.reader.now.number c.args.element.now))

pub conditional_part-returns-clause-tested : goal.conditional_part-returns-clause-tested
conditional_part-returns-clause-tested t c =
    always-ok c.push_found.result (sym (or-none c.args.test.now) ∙ ap (λ (o : Option DraftTest). option_or
    c.args.test.now o) (sym (ap test_of (among-rest tests instructions (around_of c.args.around.now)
    c.args.reader.now.number c.args.element.now c.as_str.result.now c.as_str.ensures c.in_default.ensures)
    ∙ says.no-test-among (around_of c.args.around.now) c.args.reader.now.number c.args.element.now)))

pub conditional_part-returns-clause-said : goal.conditional_part-returns-clause-said
conditional_part-returns-clause-said t c =
    let P : Option DraftInstruction → Type 0 = λ (o : Option DraftInstruction). OnOk c.push_found.result
    (c.push_found.new.all ≡ c.args.inside.now ++ option_to_list o) in
    subst P (c.in_ok-found-2.ensures.said ∙ sym (ap instruction_of (among-rest tests instructions (around_of
    c.args.around.now) c.args.reader.now.number c.args.element.now c.as_str.result.now c.as_str.ensures
    c.in_default.ensures))) c.push_found.ensures
