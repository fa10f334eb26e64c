use Rattle.std.proofs.Common.{◌≡◌, ◌++◌, flat_map, take}
use Rattle.psa_names.specs.Chains.{references_in}
use Rattle.psa_names.specs.Outlines.{expression_outline}
use Rattle.psa_lookup.specs.Asking.{asked_references}
use Rattle.psa_lookup.proofs.asked.+expression.Given as goal

abbrev pub invariant-push_expressions-loop-expression : goal.invariant-push_expressions-loop-expression
invariant-push_expressions-loop-expression l =
    asked_references l.asked.items ≡ asked_references l.fn.asked.items ++ flat_map (λ one. references_in (expression_outline one)) (take l.expression-index l.expressions)
