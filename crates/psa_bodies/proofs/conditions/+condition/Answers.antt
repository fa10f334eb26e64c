use Rattle.std.proofs.Common.{◌∙◌}
use Rattle.psa_names.specs.Outlines.{test_outline}
use Rattle.psa_names.specs.Chains.{references_in}
use Rattle.psa_names.specs.Resolved.{resolved_test}
use Rattle.psa_bodies.proofs.ReadingInOrder.{reads-none, reads-more, reads-all}
use Rattle.psa_bodies.proofs.ReadForms.{read-initiating, read-functional, read-all, read-any, read-not}
use Rattle.psa_bodies.proofs.conditions.+condition.Goals as goal

pub resolve_tests-loop-test-init : goal.resolve_tests-loop-test-init
resolve_tests-loop-test-init t c = reads-none c.args.numbers.now c.args.cursor.now _ _ (λ entries from. c.new-made.ensures)

pub resolve_tests-loop-test-preserved : goal.resolve_tests-loop-test-preserved
resolve_tests-loop-test-preserved t c =
    reads-more c.args.numbers.now c.args.cursor.now c.loop-test.cursor c.resolve_test.new.cursor (λ one. references_in (test_outline one)) (λ entries from one. resolved_test entries from one) c.args.tests.now c.loop-test.test-index c.test-item.result c.loop-test.made c.push.new.self c.in_ok-resolve_test.field-0
    c.loop-test-test.true c.test-item.is c.loop-test.invariant c.in_ok-resolve_test.ensures c.in_ok-push.ensures.ok

pub resolve_tests-returns : goal.resolve_tests-returns
resolve_tests-returns t c =
    reads-all c.args.numbers.now c.args.cursor.now c.loop-test.cursor (λ one. references_in (test_outline one)) (λ entries from one. resolved_test entries from one) c.args.tests.now c.loop-test.test-index c.loop-test.made c.loop-test-test.false c.loop-test.invariant

pub resolve_test-returns-in-Initiating : goal.resolve_test-returns-in-Initiating
resolve_test-returns-in-Initiating t c =
    read-initiating c.args.numbers.now c.args.cursor.now c.next_id-id.new.cursor c.args.test.now c.in-Initiating.field-0 c.next_id-id.result c.in-Initiating.is c.next_id-id.ensures

pub resolve_test-returns-in_ok-tests-in-All : goal.resolve_test-returns-in_ok-tests-in-All
resolve_test-returns-in_ok-tests-in-All t c =
    read-all c.args.numbers.now c.args.cursor.now c.resolve_tests.new.cursor c.args.test.now c.in-All.tests _ c.in_ok-tests-in-All.tests c.in-All.is c.as_slice.ensures c.in_ok-tests-in-All.ensures

pub resolve_test-returns-in_ok-tests-in-Any : goal.resolve_test-returns-in_ok-tests-in-Any
resolve_test-returns-in_ok-tests-in-Any t c =
    read-any c.args.numbers.now c.args.cursor.now c.resolve_tests-in-Any.new.cursor c.args.test.now c.in-Any.tests _ c.in_ok-tests-in-Any.tests c.in-Any.is c.as_slice-in-Any.ensures c.in_ok-tests-in-Any.ensures

pub resolve_test-returns-in_ok-tests-in-Not : goal.resolve_test-returns-in_ok-tests-in-Not
resolve_test-returns-in_ok-tests-in-Not t c =
    read-not c.args.numbers.now c.args.cursor.now c.resolve_tests-in-Not.new.cursor c.args.test.now c.in-Not.tests _ c.in_ok-tests-in-Not.tests c.in-Not.is c.as_slice-in-Not.ensures c.in_ok-tests-in-Not.ensures

pub resolve_test-returns-in_ok-from_str-in-Functional-2 : goal.resolve_test-returns-in_ok-from_str-in-Functional-2
resolve_test-returns-in_ok-from_str-in-Functional-2 t c =
    read-functional c.args.numbers.now c.args.cursor.now c.skip_reference.new.cursor c.args.test.now c.in-Functional.name c.in-Functional.state c.in_ok-from_str-in-Functional.field-0 c.in_ok-from_str-in-Functional-2.field-0 c.in-Functional.is c.skip_reference.ensures
    (c.in_ok-from_str-in-Functional.ensures ∙ c.as_str.ensures) (c.in_ok-from_str-in-Functional-2.ensures ∙ c.as_str-in-Functional.ensures)
