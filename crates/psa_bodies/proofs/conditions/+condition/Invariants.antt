use Rattle.std.proofs.Common.{map, take}
use Rattle.std.specs.List.{flat_map}
use Rattle.psa_names.specs.Outlines.{test_outline}
use Rattle.psa_names.specs.Chains.{references_in}
use Rattle.psa_names.specs.Resolved.{resolved_test}
use Rattle.psa_bodies.specs.Reading.{Reads}
use Rattle.psa_bodies.proofs.conditions.+condition.Given as goal

abbrev pub invariant-resolve_tests-loop-test : goal.invariant-resolve_tests-loop-test
invariant-resolve_tests-loop-test l =
    Reads l.numbers l.initial.cursor l.cursor (flat_map (λ one. references_in (test_outline one)) (take l.test-index l.tests))
    (λ entries from. map (resolved_test entries from) (take l.test-index l.tests)) l.made
