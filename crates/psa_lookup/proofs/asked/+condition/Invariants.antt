use Rattle.std.proofs.Common.{◌≡◌, ◌++◌, flat_map, take}
use Rattle.psa_names.specs.Chains.{references_in}
use Rattle.psa_names.specs.Outlines.{test_outline}
use Rattle.psa_lookup.specs.Asking.{asked_references}
use Rattle.psa_lookup.proofs.asked.+condition.Given as goal

abbrev pub invariant-push_tests-loop-test : goal.invariant-push_tests-loop-test
invariant-push_tests-loop-test l =
    asked_references l.asked.items ≡ asked_references l.fn.asked.items ++ flat_map (λ one. references_in (test_outline one)) (take l.test-index l.tests)
