use Rattle.std.proofs.Common.{map, take}
use Rattle.std.specs.List.{flat_map}
use Rattle.psa_names.specs.Outlines.{expression_outline}
use Rattle.psa_names.specs.Chains.{references_in}
use Rattle.psa_names.specs.Resolved.{resolved_expression}
use Rattle.psa_bodies.specs.Reading.{Reads}
use Rattle.psa_bodies.proofs.expressions.+expression.Given as goal

abbrev pub invariant-resolve_expressions-loop-expression : goal.invariant-resolve_expressions-loop-expression
invariant-resolve_expressions-loop-expression l =
    Reads l.numbers l.initial.cursor l.cursor (flat_map (λ one. references_in (expression_outline one)) (take l.expression-index l.expressions))
    (λ entries from. map (resolved_expression entries from) (take l.expression-index l.expressions)) l.made
