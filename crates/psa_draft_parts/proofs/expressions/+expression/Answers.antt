use Rattle.std.proofs.Common.{◌+◌, arith, rules, Some, None, List, ap, sym, ◌∙◌}
use Rattle.psa_text.specs.declared.tree.Element.TheViews as q
use Rattle.psa_draft_parts.specs.Sayings.{reading_as}
use Rattle.psa_draft_parts.specs.Starts.{around_of}
use Rattle.psa_draft_parts.proofs.Passing.{next-fits, child-readable, counted-more, counted-all, picked-more, inside-all}
use Rattle.psa_draft_parts.proofs.Readings.{among-known}
use Rattle.psa_elements.specs.ElementTable.{expressions}
use Rattle.psa_elements.specs.DraftReading.{Reading, expression_of, expressions_in}
use Rattle.psa_model.specs.declared.draft.DraftExpression.{DraftExpression}
use Rattle.psa_model.specs.declared.draft.DraftExpression.TheVariants as expression
use Rattle.psa_model.specs.declared.draft.DraftReference.{DraftReference}
use Rattle.psa_number.specs.Scaled.{Scaled}
use Rattle.psa_draft_parts.specs.Rows.{row_of_expression}
use Rattle.psa_draft_parts.specs.declared.rows.ExpressionRow.{ExpressionRow}
use Rattle.psa_draft_parts.proofs.ExpressionSayings as says
use Rattle.psa_draft_parts.proofs.expressions.+expression.Goals as goal

pub operation-overflow_add-reader : goal.operation-overflow_add-reader
operation-overflow_add-reader t c =
    omega (arith, next-fits c.args.reader.now.number c.args.element.now c.requires)

pub operation-expression-requires : goal.operation-expression-requires
operation-expression-requires t c = (
  search (rules, q.the_lemmas),
  child-readable c.args.reader.now.number c.args.element.now
      c.as_slice-children.result.now c.loop-child.child-index c.child-item.result c.loop-child.reader.number
      c.requires c.as_slice-children.ensures c.loop-child.invariant.counted c.loop-child-test.true
      c.child-item.is,
)

pub operation-loop-child-preserved : goal.operation-loop-child-preserved
operation-loop-child-preserved t c =
    record {
      counted = counted-more (c.args.reader.now.number + 1) c.as_slice-children.result.now c.loop-child.child-index
          c.child-item.result c.loop-child.reader.number c.expression.new.reader.number
          c.loop-child.invariant.counted c.loop-child-test.true c.child-item.is c.in_ok-argument.ensures.counted;
      said = c.in_ok-push_found.ensures ∙ picked-more expression_of expressions (around_of c.args.around.now)
          (c.args.reader.now.number + 1) c.as_slice-children.result.now c.loop-child.child-index
          c.child-item.result c.loop-child.reader.number c.loop-child.arguments c.in_ok-argument.argument
          c.loop-child.invariant.counted c.loop-child-test.true c.child-item.is c.loop-child.invariant.said
          c.in_ok-argument.ensures.said;
    }

pub operation-returns-clause-counted : goal.operation-returns-clause-counted
operation-returns-clause-counted t c =
    counted-all c.args.reader.now.number c.args.element.now c.as_slice-children.result.now c.loop-child.child-index
    c.loop-child.reader.number c.as_slice-children.ensures c.loop-child-test.false
    c.loop-child.invariant.counted

pub operation-returns-clause-said : goal.operation-returns-clause-said
operation-returns-clause-said t c =
    ap (λ (xs : List DraftExpression). Some (expression.Operation c.args.operator xs)) (c.loop-child.invariant.said
    ∙ ap (λ (rs : List Reading). expressions_in rs) (inside-all expressions (around_of c.args.around.now)
    c.args.reader.now.number c.args.element.now c.as_slice-children.result.now c.loop-child.child-index
    c.as_slice-children.ensures c.loop-child-test.false)) ∙ sym (says.says-operation c.args.operator
    (around_of c.args.around.now) c.args.reader.now.number c.args.element.now)

pub expression-returns-in_ok-operation-in-Some-Operation-clause-said :
    goal.expression-returns-in_ok-operation-in-Some-Operation-clause-said
expression-returns-in_ok-operation-in-Some-Operation-clause-said t c =
    c.in_ok-operation-in-Some-Operation.ensures.said ∙ sym (ap expression_of (among-known expressions (around_of
    c.args.around.now) c.args.reader.now.number c.args.element.now c.as_str.result.now (Some
    (row_of_expression c.in-Some-Operation.field-0)) c.as_str.ensures c.in-Some-Operation.ensures)
    ∙ ap (λ (f : ExpressionRow). expression_of (reading_as (row_of_expression f) (around_of c.args.around.now)
    c.args.reader.now.number c.args.element.now)) c.in-Some-Operation.field-0-is)

pub expression-returns-in-Some-Float-clause-said : goal.expression-returns-in-Some-Float-clause-said
expression-returns-in-Some-Float-clause-said t c =
    ap (λ (d : Scaled). Some (expression.Number d)) c.decimal_in.ensures ∙ sym (says.says-float (around_of
    c.args.around.now) c.args.reader.now.number c.args.element.now) ∙ sym (ap expression_of (among-known
    expressions (around_of c.args.around.now) c.args.reader.now.number c.args.element.now
    c.as_str.result.now (Some (row_of_expression c.in-Some-Float.field-0)) c.as_str.ensures
    c.in-Some-Float.ensures)
    ∙ ap (λ (f : ExpressionRow). expression_of (reading_as (row_of_expression f) (around_of c.args.around.now)
    c.args.reader.now.number c.args.element.now)) c.in-Some-Float.field-0-is)

pub expression-returns-in-Some-Int-clause-said : goal.expression-returns-in-Some-Int-clause-said
expression-returns-in-Some-Int-clause-said t c =
    ap (λ (d : Scaled). Some (expression.Number d)) c.decimal_in-in-Some-Int.ensures ∙ sym (says.says-int
    (around_of c.args.around.now) c.args.reader.now.number c.args.element.now) ∙ sym (ap expression_of
    (among-known expressions (around_of c.args.around.now) c.args.reader.now.number c.args.element.now
    c.as_str.result.now (Some (row_of_expression c.in-Some-Int.field-0)) c.as_str.ensures
    c.in-Some-Int.ensures)
    ∙ ap (λ (f : ExpressionRow). expression_of (reading_as (row_of_expression f) (around_of c.args.around.now)
    c.args.reader.now.number c.args.element.now)) c.in-Some-Int.field-0-is)

pub expression-returns-in_ok-reference-in-Some-Parameter-clause-said :
    goal.expression-returns-in_ok-reference-in-Some-Parameter-clause-said
expression-returns-in_ok-reference-in-Some-Parameter-clause-said t c =
    ap (λ (r : DraftReference). Some (expression.Parameter r)) c.in_ok-reference-in-Some-Parameter.ensures ∙ sym
    (says.says-parameter (around_of c.args.around.now) c.args.reader.now.number c.args.element.now) ∙ sym
    (ap expression_of (among-known expressions (around_of c.args.around.now) c.args.reader.now.number
    c.args.element.now c.as_str.result.now (Some (row_of_expression c.in-Some-Parameter.field-0))
    c.as_str.ensures c.in-Some-Parameter.ensures)
    ∙ ap (λ (f : ExpressionRow). expression_of (reading_as (row_of_expression f) (around_of c.args.around.now)
    c.args.reader.now.number c.args.element.now)) c.in-Some-Parameter.field-0-is)

pub expression-returns-in-Some-MissionTime-clause-said : goal.expression-returns-in-Some-MissionTime-clause-said
expression-returns-in-Some-MissionTime-clause-said t c =
    sym (says.says-mission_time (around_of c.args.around.now) c.args.reader.now.number c.args.element.now) ∙ sym
    (ap expression_of (among-known expressions (around_of c.args.around.now) c.args.reader.now.number
    c.args.element.now c.as_str.result.now (Some (row_of_expression c.in-Some-MissionTime.field-0))
    c.as_str.ensures c.in-Some-MissionTime.ensures)
    ∙ ap (λ (f : ExpressionRow). expression_of (reading_as (row_of_expression f) (around_of c.args.around.now)
    c.args.reader.now.number c.args.element.now)) c.in-Some-MissionTime.field-0-is)

pub expression-returns-in-None-clause-said : goal.expression-returns-in-None-clause-said
expression-returns-in-None-clause-said t c =
    ap expression_of (sym (among-known expressions (around_of c.args.around.now) c.args.reader.now.number
    c.args.element.now c.as_str.result.now None c.as_str.ensures c.in-None.ensures))
