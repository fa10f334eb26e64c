use Rattle.std.proofs.Common.{◌≡◌, ◌+◌, arith, rules, Some, None, ap, sym, ◌∙◌}
use Rattle.psa_text.specs.declared.tree.Element.TheViews.{out-Element}
use Rattle.psa_elements.specs.ElementTable.{formulas}
use Rattle.psa_elements.specs.DraftReading.{formula_of, formulas_in}
use Rattle.psa_draft_parts.specs.Rows.{row_of_formula}
use Rattle.std.proofs.Common.{Bool}
use Rattle.psa_model.specs.declared.draft.DraftFormula.TheVariants.{Constant}
use Rattle.psa_draft_parts.specs.declared.rows.FormulaRow.{FormulaRow}
use Rattle.psa_draft_parts.specs.Sayings.{inside_among, reading_as}
use Rattle.psa_draft_parts.specs.Starts.{around_of}
use Rattle.psa_draft_parts.proofs.Passing.{next-fits, child-readable, counted-more, counted-all, picked-more, inside-all, short-min, short-max}
use Rattle.psa_draft_parts.proofs.Readings.{among-known}
use Rattle.psa_draft_parts.proofs.FormulaSayings.{says-connective, says-event, says-constant}
use Rattle.psa_text.specs.declared.tree.Element.TheViews as q
use Rattle.psa_draft_parts.proofs.formulas.+formula.Goals as goal

pub connective-overflow_add-reader : goal.connective-overflow_add-reader
connective-overflow_add-reader t c = omega (arith, next-fits c.args.reader.now.number c.args.element.now c.requires)

pub connective-formula-requires : goal.connective-formula-requires
connective-formula-requires t c = (
  search (rules, q.the_lemmas),
  child-readable c.args.reader.now.number
      c.args.element.now c.as_slice-children.result.now c.loop-child.child-index c.child-item.result
      c.loop-child.reader.number c.requires c.as_slice-children.ensures c.loop-child.invariant.counted
      c.loop-child-test.true c.child-item.is,
)

pub connective-loop-child-preserved : goal.connective-loop-child-preserved
connective-loop-child-preserved t c =
    let more = picked-more formula_of formulas (around_of c.args.around.now) (c.args.reader.now.number + 1)
    c.as_slice-children.result.now c.loop-child.child-index c.child-item.result c.loop-child.reader.number
    c.loop-child.arguments c.in_ok-argument.argument c.loop-child.invariant.counted c.loop-child-test.true
    c.child-item.is c.loop-child.invariant.said c.in_ok-argument.ensures.said in
    record {
      counted = counted-more (c.args.reader.now.number + 1) c.as_slice-children.result.now c.loop-child.child-index
          c.child-item.result c.loop-child.reader.number c.formula.new.reader.number
          c.loop-child.invariant.counted c.loop-child-test.true c.child-item.is c.in_ok-argument.ensures.counted;
      said = c.in_ok-push_found.ensures ∙ more;
    }

pub connective-least_of-requires : goal.connective-least_of-requires
connective-least_of-requires t c = short-min c.args.reader.now.number c.args.element.now c.requires

pub connective-most_of-requires : goal.connective-most_of-requires
connective-most_of-requires t c = short-max c.args.reader.now.number c.args.element.now c.requires

pub connective-returns-clause-counted : goal.connective-returns-clause-counted
connective-returns-clause-counted t c = counted-all c.args.reader.now.number c.args.element.now
    c.as_slice-children.result.now c.loop-child.child-index c.loop-child.reader.number
    c.as_slice-children.ensures c.loop-child-test.false c.loop-child.invariant.counted

pub connective-returns-clause-said : goal.connective-returns-clause-said
connective-returns-clause-said t c =
    let arguments : c.loop-child.arguments ≡ formulas_in (inside_among formulas (around_of c.args.around.now)
    c.args.reader.now.number c.args.element.now) =
    c.loop-child.invariant.said ∙ ap formulas_in (inside-all formulas (around_of c.args.around.now)
    c.args.reader.now.number c.args.element.now c.as_slice-children.result.now c.loop-child.child-index
    c.as_slice-children.ensures c.loop-child-test.false) in
    cc (says-connective c.args.operator (around_of c.args.around.now) c.args.reader.now.number c.args.element.now)

pub formula-returns-in_ok-connective-in-Some-Connective-clause-said :
    goal.formula-returns-in_ok-connective-in-Some-Connective-clause-said
formula-returns-in_ok-connective-in-Some-Connective-clause-said t c =
    c.in_ok-connective-in-Some-Connective.ensures.said ∙ sym (ap formula_of (among-known formulas (around_of
    c.args.around.now) c.args.reader.now.number c.args.element.now c.as_str.result.now (Some
    (row_of_formula c.in-Some-Connective.field-0)) c.as_str.ensures c.in-Some-Connective.ensures)
    ∙ ap (λ (f : FormulaRow). formula_of (reading_as (row_of_formula f) (around_of c.args.around.now)
    c.args.reader.now.number c.args.element.now)) c.in-Some-Connective.field-0-is)

pub formula-returns-in_ok-event-in-Some-Event-clause-said : goal.formula-returns-in_ok-event-in-Some-Event-clause-said
formula-returns-in_ok-event-in-Some-Event-clause-said t c =
    ap Some c.in_ok-event-in-Some-Event.ensures ∙ sym (says-event c.in-Some-Event.kind (around_of
    c.args.around.now) c.args.reader.now.number c.args.element.now) ∙ sym (ap formula_of (among-known
    formulas (around_of c.args.around.now) c.args.reader.now.number c.args.element.now c.as_str.result.now
    (Some (row_of_formula c.in-Some-Event.field-0)) c.as_str.ensures c.in-Some-Event.ensures)
    ∙ ap (λ (f : FormulaRow). formula_of (reading_as (row_of_formula f) (around_of c.args.around.now)
    c.args.reader.now.number c.args.element.now)) c.in-Some-Event.field-0-is)

pub formula-returns-in-Some-Constant-clause-said : goal.formula-returns-in-Some-Constant-clause-said
formula-returns-in-Some-Constant-clause-said t c =
    ap (λ (b : Bool). Some (Constant b)) c.has_value.ensures ∙ sym (says-constant (around_of c.args.around.now)
    c.args.reader.now.number c.args.element.now) ∙ sym (ap formula_of (among-known formulas (around_of
    c.args.around.now) c.args.reader.now.number c.args.element.now c.as_str.result.now (Some
    (row_of_formula c.in-Some-Constant.field-0)) c.as_str.ensures c.in-Some-Constant.ensures)
    ∙ ap (λ (f : FormulaRow). formula_of (reading_as (row_of_formula f) (around_of c.args.around.now)
    c.args.reader.now.number c.args.element.now)) c.in-Some-Constant.field-0-is)

pub formula-returns-in-None-clause-said : goal.formula-returns-in-None-clause-said
formula-returns-in-None-clause-said t c = ap formula_of (sym (among-known formulas (around_of c.args.around.now)
    c.args.reader.now.number c.args.element.now c.as_str.result.now None c.as_str.ensures c.in-None.ensures))
