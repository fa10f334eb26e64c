use Rattle.psa_names.specs.Outlines.{expression_outline}
use Rattle.psa_names.specs.Chains.{references_in}
use Rattle.psa_names.specs.Resolved.{resolved_expression}
use Rattle.psa_bodies.proofs.ReadingInOrder.{reads-none, reads-more, reads-all}
use Rattle.psa_bodies.proofs.ReadForms.{read-parameter, read-operation}
use Rattle.psa_bodies.proofs.expressions.+expression.Goals as goal

pub resolve_expressions-loop-expression-init : goal.resolve_expressions-loop-expression-init
resolve_expressions-loop-expression-init t c = reads-none c.args.numbers.now c.args.cursor.now _ _ (λ entries from. c.new-made.ensures)

pub resolve_expressions-loop-expression-preserved : goal.resolve_expressions-loop-expression-preserved
resolve_expressions-loop-expression-preserved t c =
    reads-more c.args.numbers.now c.args.cursor.now c.loop-expression.cursor c.resolve_expression.new.cursor (λ one. references_in (expression_outline one)) (λ entries from one. resolved_expression entries from one) c.args.expressions.now c.loop-expression.expression-index c.expression-item.result c.loop-expression.made c.push.new.self c.in_ok-resolve_expression.field-0
    c.loop-expression-test.true c.expression-item.is c.loop-expression.invariant c.in_ok-resolve_expression.ensures c.in_ok-push.ensures.ok

pub resolve_expressions-returns : goal.resolve_expressions-returns
resolve_expressions-returns t c =
    reads-all c.args.numbers.now c.args.cursor.now c.loop-expression.cursor (λ one. references_in (expression_outline one)) (λ entries from one. resolved_expression entries from one) c.args.expressions.now c.loop-expression.expression-index c.loop-expression.made c.loop-expression-test.false c.loop-expression.invariant

pub resolve_expression-returns-in-Parameter : goal.resolve_expression-returns-in-Parameter
resolve_expression-returns-in-Parameter t c =
    read-parameter c.args.numbers.now c.args.cursor.now c.next_id-id.new.cursor c.args.expression.now c.in-Parameter.field-0 c.next_id-id.result c.in-Parameter.is c.next_id-id.ensures

pub resolve_expression-returns-in_ok-arguments-in-Operation : goal.resolve_expression-returns-in_ok-arguments-in-Operation
resolve_expression-returns-in_ok-arguments-in-Operation t c =
    read-operation c.args.numbers.now c.args.cursor.now c.resolve_expressions.new.cursor c.args.expression.now c.in-Operation.operator c.in-Operation.arguments _ c.in_ok-arguments-in-Operation.arguments c.in-Operation.is c.as_slice.ensures c.in_ok-arguments-in-Operation.ensures
