use Rattle.std.proofs.Common.{◌+◌, arith, List, slice_get, ap, ◌∙◌}
use Rattle.psa_draft_parts.specs.Starts.{around_of}
use Rattle.psa_draft_parts.proofs.Passing.{next-fits, child-readable, counted-more, counted-all, first-more, inside-all}
use Rattle.psa_elements.specs.ElementTable.{expressions}
use Rattle.psa_elements.specs.DraftReading.{Reading, expression_of, expressions_in}
use Rattle.psa_draft_parts.proofs.expressions.first_expression.Goals as goal

pub overflow_add-reader : goal.overflow_add-reader
overflow_add-reader c =
    omega (arith, next-fits c.args.reader.now.number c.args.element.now c.requires)

pub expression-requires : goal.expression-requires
expression-requires c =
    child-readable c.args.reader.now.number c.args.element.now c.as_slice-children.result.now
    c.loop-child.child-index c.child-item.result c.loop-child.reader.number c.requires
    c.as_slice-children.ensures c.loop-child.invariant.counted c.loop-child-test.true c.child-item.is

pub loop-child-preserved : goal.loop-child-preserved
loop-child-preserved c =
    record {
      counted = counted-more (c.args.reader.now.number + 1) c.as_slice-children.result.now c.loop-child.child-index
          c.child-item.result c.loop-child.reader.number c.expression.new.reader.number
          c.loop-child.invariant.counted c.loop-child-test.true c.child-item.is c.in_ok-found.ensures.counted;
      said = c.keep_first.ensures ∙ first-more expression_of expressions (around_of c.args.around.now)
          (c.args.reader.now.number + 1) c.as_slice-children.result.now c.loop-child.child-index
          c.child-item.result c.loop-child.reader.number c.loop-child.first c.in_ok-found.found
          c.loop-child.invariant.counted c.loop-child-test.true c.child-item.is c.loop-child.invariant.said
          c.in_ok-found.ensures.said;
    }

pub returns-clause-counted : goal.returns-clause-counted
returns-clause-counted c =
    counted-all c.args.reader.now.number c.args.element.now c.as_slice-children.result.now c.loop-child.child-index
    c.loop-child.reader.number c.as_slice-children.ensures c.loop-child-test.false
    c.loop-child.invariant.counted

pub returns-clause-said : goal.returns-clause-said
returns-clause-said c =
    c.loop-child.invariant.said ∙ ap (λ (rs : List Reading). slice_get (expressions_in rs) 0) (inside-all
    expressions (around_of c.args.around.now) c.args.reader.now.number c.args.element.now
    c.as_slice-children.result.now c.loop-child.child-index c.as_slice-children.ensures
    c.loop-child-test.false)
