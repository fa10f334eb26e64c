use Rattle.std.proofs.Common.{arith, ◌+◌, ◌∙◌, refl}
use Rattle.psa_model.specs.Drafts.{test_contents}
use Rattle.psa_names.specs.Outlines.{test_outline}
use Rattle.psa_cycles.proofs.AddedElements.{on-ok, pushed-none, pushed-more, pushed-all}
use Rattle.psa_cycles.proofs.RoomInside.{nesting-at}
use Rattle.psa_cycles.proofs.BodyForms.{holds_all, holds_any, holds_not, tests-inside, tests-pushed, test-initiating, test-functional}
use Rattle.psa_cycles.proofs.levels.+testing.Goals as goal

pub push_tests-push_test-requires : goal.push_tests-push_test-requires
push_tests-push_test-requires t c =
    let inside = nesting-at test_contents c.args.tests.now c.args.tests.now c.loop-test.test-index c.test-item.result refl c.loop-test-test.true c.test-item.is in
    (omega arith, omega arith)

pub push_tests-loop-test-init : goal.push_tests-loop-test-init
push_tests-loop-test-init t c = c.push_plain.ensures ∙ pushed-none (c.args.around + 1) _

pub push_tests-loop-test-preserved : goal.push_tests-loop-test-preserved
push_tests-loop-test-preserved t c =
    pushed-more test_outline (c.args.around + 1) c.args.tests.now c.loop-test.test-index c.test-item.result _ _ _ c.loop-test-test.true c.test-item.is c.loop-test.invariant c.in_ok-push_test.ensures

pub push_tests-returns : goal.push_tests-returns
push_tests-returns t c = pushed-all test_outline (c.args.around + 1) c.args.tests.now c.args.tests.now c.loop-test.test-index _ _ refl c.loop-test-test.false c.loop-test.invariant

pub push_test-push_tests-requires : goal.push_test-push_tests-requires
push_test-push_tests-requires t c =
    let inside = tests-inside c.in-All.tests c.as_slice.result.now c.args.test.now c.as_slice.ensures (holds_all c.in-All.is) in
    (omega arith, omega arith)

pub push_test-push_tests-requires-in-Any : goal.push_test-push_tests-requires-in-Any
push_test-push_tests-requires-in-Any t c =
    let inside = tests-inside c.in-Any.tests c.as_slice-in-Any.result.now c.args.test.now c.as_slice-in-Any.ensures (holds_any c.in-Any.is) in
    (omega arith, omega arith)

pub push_test-push_tests-requires-in-Not : goal.push_test-push_tests-requires-in-Not
push_test-push_tests-requires-in-Not t c =
    let inside = tests-inside c.in-Not.tests c.as_slice-in-Not.result.now c.args.test.now c.as_slice-in-Not.ensures (holds_not c.in-Not.is) in
    (omega arith, omega arith)

pub push_test-returns-in-All : goal.push_test-returns-in-All
push_test-returns-in-All t c =
    on-ok c.push_tests.result _ _ (λ h. tests-pushed c.args.around c.in-All.tests c.as_slice.result.now c.args.test.now c.args.levels.now _ c.as_slice.ensures (holds_all c.in-All.is) h) c.push_tests.ensures

pub push_test-returns-in-Any : goal.push_test-returns-in-Any
push_test-returns-in-Any t c =
    on-ok c.push_tests-in-Any.result _ _ (λ h. tests-pushed c.args.around c.in-Any.tests c.as_slice-in-Any.result.now c.args.test.now c.args.levels.now _ c.as_slice-in-Any.ensures (holds_any c.in-Any.is) h) c.push_tests-in-Any.ensures

pub push_test-returns-in-Not : goal.push_test-returns-in-Not
push_test-returns-in-Not t c =
    on-ok c.push_tests-in-Not.result _ _ (λ h. tests-pushed c.args.around c.in-Not.tests c.as_slice-in-Not.result.now c.args.test.now c.args.levels.now _ c.as_slice-in-Not.ensures (holds_not c.in-Not.is) h) c.push_tests-in-Not.ensures

pub push_test-returns-in-Initiating : goal.push_test-returns-in-Initiating
push_test-returns-in-Initiating t c = on-ok c.push_naming.result _ _ (λ h. test-initiating c.args.around c.args.test.now _ c.args.levels.now _ c.in-Initiating.is h) c.push_naming.ensures

pub push_test-returns-in-Functional : goal.push_test-returns-in-Functional
push_test-returns-in-Functional t c =
    on-ok c.push_naming-in-Functional.result _ _ (λ h. test-functional c.args.around c.args.test.now _ _ c.args.levels.now _ c.in-Functional.is h) c.push_naming-in-Functional.ensures
