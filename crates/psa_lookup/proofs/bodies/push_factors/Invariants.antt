use Rattle.std.proofs.Common.{◌≡◌, ◌++◌, take}
use Rattle.psa_lookup.specs.Asking.{asked_references, factor_references}
use Rattle.psa_lookup.proofs.bodies.push_factors.Given as goal

abbrev pub invariant-loop-factor : goal.invariant-loop-factor
invariant-loop-factor l =
    asked_references l.asked.items ≡ asked_references l.fn.asked.items ++ factor_references (take l.factor-index l.factors)
