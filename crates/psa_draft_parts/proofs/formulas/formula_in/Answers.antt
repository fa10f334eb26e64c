use Rattle.std.proofs.Common.{◌+◌, arith, ap, ◌∙◌}
use Rattle.psa_elements.specs.ElementTable.{formulas}
use Rattle.std.proofs.Common.{Option, List, false, slice_get}
use Rattle.std.specs.Option.{unwrap_or}
use Rattle.psa_model.specs.declared.draft.DraftFormula.{DraftFormula}
use Rattle.psa_model.specs.declared.draft.DraftFormula.TheVariants.{Constant}
use Rattle.psa_elements.specs.DraftReading.{Reading, formula_of, formulas_in}
use Rattle.psa_draft_parts.specs.Starts.{around_of}
use Rattle.psa_draft_parts.proofs.Passing.{next-fits, child-readable, counted-more, counted-all, first-more, inside-all}
use Rattle.psa_draft_parts.proofs.formulas.formula_in.Goals as goal

pub overflow_add-reader : goal.overflow_add-reader
overflow_add-reader c = omega (arith, next-fits c.args.reader.now.number c.args.element.now c.requires)

pub formula-requires : goal.formula-requires
formula-requires c = child-readable c.args.reader.now.number c.args.element.now c.as_slice-children.result.now
    c.loop-child.child-index c.child-item.result c.loop-child.reader.number c.requires
    c.as_slice-children.ensures c.loop-child.invariant.counted c.loop-child-test.true c.child-item.is

pub loop-child-preserved : goal.loop-child-preserved
loop-child-preserved c =
    let more = first-more formula_of formulas (around_of c.args.around.now) (c.args.reader.now.number + 1)
    c.as_slice-children.result.now c.loop-child.child-index c.child-item.result c.loop-child.reader.number
    c.loop-child.first c.in_ok-found.found c.loop-child.invariant.counted c.loop-child-test.true
    c.child-item.is c.loop-child.invariant.said c.in_ok-found.ensures.said in
    record {
      counted = counted-more (c.args.reader.now.number + 1) c.as_slice-children.result.now c.loop-child.child-index
          c.child-item.result c.loop-child.reader.number c.formula.new.reader.number
          c.loop-child.invariant.counted c.loop-child-test.true c.child-item.is c.in_ok-found.ensures.counted;
      said = cc more;
    }

pub returns-clause-counted : goal.returns-clause-counted
returns-clause-counted c = counted-all c.args.reader.now.number c.args.element.now c.as_slice-children.result.now
    c.loop-child.child-index c.loop-child.reader.number c.as_slice-children.ensures c.loop-child-test.false
    c.loop-child.invariant.counted

pub returns-clause-said : goal.returns-clause-said
returns-clause-said c = let inside = inside-all formulas (around_of c.args.around.now) c.args.reader.now.number
    c.args.element.now c.as_slice-children.result.now c.loop-child.child-index c.as_slice-children.ensures
    c.loop-child-test.false in
    c.unwrap_or.ensures ∙ ap (λ (o : Option DraftFormula). unwrap_or o (Constant false))
    (c.loop-child.invariant.said ∙ ap (λ (rs : List Reading). slice_get (formulas_in rs) 0) inside)
