use Rattle.std.proofs.Common.{◌≡◌, true, false, take}
use Rattle.std.specs.List.{list_all, list_any}
use Rattle.psa_model.specs.Tests.{is_true_in}
use Rattle.psa_walk.proofs.conditions.+condition.Given as goal

abbrev pub invariant-all_hold-loop-test : goal.invariant-all_hold-loop-test
invariant-all_hold-loop-test l = list_all (λ test. is_true_in l.initiating.0 l.travelled.forks test) (take l.test-index l.tests) ≡ true

abbrev pub invariant-any_holds-loop-test : goal.invariant-any_holds-loop-test
invariant-any_holds-loop-test l = list_any (λ test. is_true_in l.initiating.0 l.travelled.forks test) (take l.test-index l.tests) ≡ false
