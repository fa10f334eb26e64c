use Rattle.std.proofs.Common.{◌≡◌, ◌++◌, List, flat_map, sym, ap, ◌∙◌}
use Rattle.psa_names.specs.Chains.{references_in}
use Rattle.psa_names.specs.Outlines.{Reference, test_outline}
use Rattle.psa_lookup.specs.Asking.{asked_references}
use Rattle.psa_lookup.proofs.StateLemmas.{on-ok}
use Rattle.psa_lookup.proofs.AskedLemmas.{in-all-tests, in-any-tests, in-not-tests, more-added}
use Rattle.psa_lookup.proofs.asked.+condition.Goals as goal

pub push_test-returns-in-All : goal.push_test-returns-in-All
push_test-returns-in-All t c =
    on-ok c.push_tests.result
    (λ (made : asked_references c.push_tests.new.asked.items ≡ asked_references c.args.asked.now.items ++ flat_map (λ one. references_in (test_outline one)) c.as_slice.result.now).
    made ∙ ap (λ (l : List Reference). asked_references c.args.asked.now.items ++ l)
    (ap (flat_map (λ one. references_in (test_outline one))) c.as_slice.ensures ∙ sym (in-all-tests c.in-All.tests) ∙ ap (λ e. references_in (test_outline e)) (sym c.in-All.is)))
    c.push_tests.ensures

pub push_test-returns-in-Any : goal.push_test-returns-in-Any
push_test-returns-in-Any t c =
    on-ok c.push_tests-in-Any.result
    (λ (made : asked_references c.push_tests-in-Any.new.asked.items ≡ asked_references c.args.asked.now.items ++ flat_map (λ one. references_in (test_outline one)) c.as_slice-in-Any.result.now).
    made ∙ ap (λ (l : List Reference). asked_references c.args.asked.now.items ++ l)
    (ap (flat_map (λ one. references_in (test_outline one))) c.as_slice-in-Any.ensures ∙ sym (in-any-tests c.in-Any.tests) ∙ ap (λ e. references_in (test_outline e)) (sym c.in-Any.is)))
    c.push_tests-in-Any.ensures

pub push_test-returns-in-Not : goal.push_test-returns-in-Not
push_test-returns-in-Not t c =
    on-ok c.push_tests-in-Not.result
    (λ (made : asked_references c.push_tests-in-Not.new.asked.items ≡ asked_references c.args.asked.now.items ++ flat_map (λ one. references_in (test_outline one)) c.as_slice-in-Not.result.now).
    made ∙ ap (λ (l : List Reference). asked_references c.args.asked.now.items ++ l)
    (ap (flat_map (λ one. references_in (test_outline one))) c.as_slice-in-Not.ensures ∙ sym (in-not-tests c.in-Not.tests) ∙ ap (λ e. references_in (test_outline e)) (sym c.in-Not.is)))
    c.push_tests-in-Not.ensures

pub push_tests-loop-test-preserved : goal.push_tests-loop-test-preserved
push_tests-loop-test-preserved t c =
    more-added (λ one. references_in (test_outline one)) _ _ _ c.args.tests.now c.loop-test.test-index c.test-item.result c.loop-test-test.true c.test-item.is c.loop-test.invariant c.in_ok-push_test.ensures
