use Rattle.psa_names.specs.Outlines.{formula_outline}
use Rattle.psa_names.specs.Chains.{references_in}
use Rattle.psa_names.specs.Resolved.{resolved_formula}
use Rattle.psa_bodies.proofs.ReadingInOrder.{reads-none, reads-more, reads-all}
use Rattle.psa_bodies.proofs.ReadForms.{read-event, read-connective}
use Rattle.psa_bodies.proofs.formulas.+formula.Goals as goal

pub resolve_formulas-loop-formula-init : goal.resolve_formulas-loop-formula-init
resolve_formulas-loop-formula-init t c = reads-none c.args.numbers.now c.args.cursor.now _ _ (λ entries from. c.new-made.ensures)

pub resolve_formulas-loop-formula-preserved : goal.resolve_formulas-loop-formula-preserved
resolve_formulas-loop-formula-preserved t c =
    reads-more c.args.numbers.now c.args.cursor.now c.loop-formula.cursor c.resolve_formula.new.cursor (λ one. references_in (formula_outline one)) (λ entries from one. resolved_formula entries from one) c.args.formulas.now c.loop-formula.formula-index c.formula-item.result c.loop-formula.made c.push.new.self c.in_ok-resolve_formula.field-0
    c.loop-formula-test.true c.formula-item.is c.loop-formula.invariant c.in_ok-resolve_formula.ensures c.in_ok-push.ensures.ok

pub resolve_formulas-returns : goal.resolve_formulas-returns
resolve_formulas-returns t c =
    reads-all c.args.numbers.now c.args.cursor.now c.loop-formula.cursor (λ one. references_in (formula_outline one)) (λ entries from one. resolved_formula entries from one) c.args.formulas.now c.loop-formula.formula-index c.loop-formula.made c.loop-formula-test.false c.loop-formula.invariant

pub resolve_formula-returns-in-Event : goal.resolve_formula-returns-in-Event
resolve_formula-returns-in-Event t c =
    read-event c.args.numbers.now c.args.cursor.now c.next_event.new.cursor c.args.formula.now c.in-Event.field-0 c.in-Event.field-1 c.next_event.result c.in-Event.is c.next_event.ensures

pub resolve_formula-returns-in_ok-arguments-in-Connective : goal.resolve_formula-returns-in_ok-arguments-in-Connective
resolve_formula-returns-in_ok-arguments-in-Connective t c =
    read-connective c.args.numbers.now c.args.cursor.now c.resolve_formulas.new.cursor c.args.formula.now c.in-Connective.operator c.in-Connective.min c.in-Connective.max c.in-Connective.arguments _ c.in_ok-arguments-in-Connective.arguments c.in-Connective.is c.as_slice.ensures c.in_ok-arguments-in-Connective.ensures
