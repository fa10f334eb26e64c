use Rattle.std.proofs.Common.{◌+◌, arith, rules, Some, None, List, ap, sym, ◌∙◌}
use Rattle.psa_elements.specs.DraftReading as reading
use Rattle.std.specs.List.{filter_map}
use Rattle.psa_text.specs.declared.tree.Element.TheViews as q
use Rattle.psa_draft_parts.specs.Sayings.{reading_as, start_tag}
use Rattle.psa_draft_parts.specs.Starts.{around_of}
use Rattle.psa_draft_parts.proofs.Passing.{next-fits, child-readable, counted-more, counted-all, picked-more, inside-all}
use Rattle.psa_draft_parts.proofs.Readings.{among-known}
use Rattle.psa_elements.specs.ElementTable.{tests}
use Rattle.psa_elements.specs.DraftReading.{Reading, test_of}
use Rattle.psa_model.specs.declared.draft.DraftTest.{DraftTest}
use Rattle.psa_model.specs.declared.draft.DraftTest.TheVariants as condition
use Rattle.psa_model.specs.declared.draft.DraftReference.{DraftReference}
use Rattle.psa_model.specs.PathNames.{Text}
use Rattle.psa_draft_parts.specs.Rows.{row_of_test}
use Rattle.psa_draft_parts.specs.declared.rows.TestRow.{TestRow}
use Rattle.psa_draft_parts.proofs.ConditionSayings as says
use Rattle.psa_draft_parts.proofs.conditions.+condition.Goals as goal

pub conditions-overflow_add-reader : goal.conditions-overflow_add-reader
conditions-overflow_add-reader t c =
    omega (arith, next-fits c.args.reader.now.number c.args.element.now c.requires)

pub conditions-condition_at-requires : goal.conditions-condition_at-requires
conditions-condition_at-requires t c = (
  search (rules, q.the_lemmas),
  child-readable c.args.reader.now.number c.args.element.now
      c.as_slice-children.result.now c.loop-child.child-index c.child-item.result c.loop-child.reader.number
      c.requires c.as_slice-children.ensures c.loop-child.invariant.counted c.loop-child-test.true
      c.child-item.is,
)

pub conditions-loop-child-preserved : goal.conditions-loop-child-preserved
conditions-loop-child-preserved t c =
    record {
      counted = counted-more (c.args.reader.now.number + 1) c.as_slice-children.result.now c.loop-child.child-index
          c.child-item.result c.loop-child.reader.number c.condition_at.new.reader.number
          c.loop-child.invariant.counted c.loop-child-test.true c.child-item.is c.in_ok-found.ensures.counted;
      said = c.in_ok-push_found.ensures ∙ picked-more test_of tests (around_of c.args.around.now)
          (c.args.reader.now.number + 1) c.as_slice-children.result.now c.loop-child.child-index
          c.child-item.result c.loop-child.reader.number c.loop-child.all c.in_ok-found.found
          c.loop-child.invariant.counted c.loop-child-test.true c.child-item.is c.loop-child.invariant.said
          c.in_ok-found.ensures.said;
    }

pub conditions-returns-clause-counted : goal.conditions-returns-clause-counted
conditions-returns-clause-counted t c =
    counted-all c.args.reader.now.number c.args.element.now c.as_slice-children.result.now c.loop-child.child-index
    c.loop-child.reader.number c.as_slice-children.ensures c.loop-child-test.false
    c.loop-child.invariant.counted

pub conditions-returns-clause-said : goal.conditions-returns-clause-said
conditions-returns-clause-said t c =
    c.loop-child.invariant.said ∙ ap (λ (rs : List Reading). filter_map test_of rs) (inside-all tests (around_of
    c.args.around.now) c.args.reader.now.number c.args.element.now c.as_slice-children.result.now
    c.loop-child.child-index c.as_slice-children.ensures c.loop-child-test.false)

pub condition_at-returns-in_ok-condition-in-Some-clause-said :
    goal.condition_at-returns-in_ok-condition-in-Some-clause-said
condition_at-returns-in_ok-condition-in-Some-clause-said t c =
    c.in_ok-condition-in-Some.ensures.said ∙ sym (ap test_of (among-known tests (around_of c.args.around.now)
    c.args.reader.now.number c.args.element.now c.as_str.result.now (Some (row_of_test c.in-Some.row))
    c.as_str.ensures c.in-Some.ensures))

pub condition_at-returns-in-None-clause-said : goal.condition_at-returns-in-None-clause-said
condition_at-returns-in-None-clause-said t c =
    ap test_of (sym (among-known tests (around_of c.args.around.now) c.args.reader.now.number c.args.element.now
    c.as_str.result.now None c.as_str.ensures c.in-None.ensures))

pub condition-returns-in_ok-reference-in-Initiating-clause-said :
    goal.condition-returns-in_ok-reference-in-Initiating-clause-said
condition-returns-in_ok-reference-in-Initiating-clause-said t c =
    ap (λ (r : DraftReference). Some (condition.Initiating r)) c.in_ok-reference-in-Initiating.ensures ∙ sym
    (says.says-initiating (around_of c.args.around.now) c.args.reader.now.number c.args.element.now) ∙ ap
    (λ (r : TestRow). test_of (reading_as (row_of_test r) (around_of c.args.around.now)
    c.args.reader.now.number c.args.element.now)) (sym c.in-Initiating.is)

pub condition-returns-in_ok-from_str-in-Functional-clause-said :
    goal.condition-returns-in_ok-from_str-in-Functional-clause-said
condition-returns-in_ok-from_str-in-Functional-clause-said t c =
    ap (λ (r : DraftReference). Some (condition.Functional r c.in_ok-from_str-in-Functional.field-0))
    c.in_ok-reference-in-Functional.ensures ∙ ap (λ (s : Text). Some (condition.Functional
    (reading.reference (start_tag (around_of c.args.around.now) c.args.reader.now.number
    c.args.element.now)) s)) (c.in_ok-from_str-in-Functional.ensures ∙ c.text_at.ensures) ∙ sym
    (says.says-functional (around_of c.args.around.now) c.args.reader.now.number c.args.element.now) ∙ ap
    (λ (r : TestRow). test_of (reading_as (row_of_test r) (around_of c.args.around.now)
    c.args.reader.now.number c.args.element.now)) (sym c.in-Functional.is)

pub condition-returns-in-All-clause-said : goal.condition-returns-in-All-clause-said
condition-returns-in-All-clause-said t c =
    ap (λ (ts : List DraftTest). Some (condition.All ts)) c.in_ok-inside.ensures.said ∙ sym (says.says-all
    (around_of c.args.around.now) c.args.reader.now.number c.args.element.now) ∙ ap (λ (r : TestRow).
    test_of (reading_as (row_of_test r) (around_of c.args.around.now) c.args.reader.now.number
    c.args.element.now)) (sym c.in-All.is)

pub condition-returns-in-Any-clause-said : goal.condition-returns-in-Any-clause-said
condition-returns-in-Any-clause-said t c =
    ap (λ (ts : List DraftTest). Some (condition.Any ts)) c.in_ok-inside.ensures.said ∙ sym (says.says-any
    (around_of c.args.around.now) c.args.reader.now.number c.args.element.now) ∙ ap (λ (r : TestRow).
    test_of (reading_as (row_of_test r) (around_of c.args.around.now) c.args.reader.now.number
    c.args.element.now)) (sym c.in-Any.is)

pub condition-returns-in-Not-clause-said : goal.condition-returns-in-Not-clause-said
condition-returns-in-Not-clause-said t c =
    ap (λ (ts : List DraftTest). Some (condition.Not ts)) c.in_ok-inside.ensures.said ∙ sym (says.says-not
    (around_of c.args.around.now) c.args.reader.now.number c.args.element.now) ∙ ap (λ (r : TestRow).
    test_of (reading_as (row_of_test r) (around_of c.args.around.now) c.args.reader.now.number
    c.args.element.now)) (sym c.in-Not.is)
