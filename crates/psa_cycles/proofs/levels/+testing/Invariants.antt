use Rattle.std.proofs.Common.{◌≡◌, ◌+◌, ◌*◌, [], map, take}
use Rattle.psa_model.specs.Drafts.{test_contents, together}
use Rattle.psa_names.specs.Outlines.{test_outline, joined}
use Rattle.psa_cycles.specs.Levels.{added, with_outlines}
use Rattle.psa_cycles.proofs.levels.+testing.Given as goal

abbrev pub invariant-push_tests-loop-test : goal.invariant-push_tests-loop-test
invariant-push_tests-loop-test l = l.levels ≡ with_outlines (l.around + 1) (joined (map test_outline (take l.test-index l.tests))) (added l.fn.levels [] (l.around + 1))

abbrev pub decreases-push_test : goal.decreases-push_test
decreases-push_test l = 2 * (test_contents l.test.now).nesting

abbrev pub decreases-push_tests : goal.decreases-push_tests
decreases-push_tests l = 2 * (together (map test_contents l.tests.now)).nesting + 1
