use Rattle.std.proofs.Common.{◌≡◌, ◌++◌, List, flat_map, sym, ap, ◌∙◌}
use Rattle.psa_names.specs.Chains.{references_in}
use Rattle.psa_names.specs.Outlines.{Reference, expression_outline}
use Rattle.psa_lookup.specs.Asking.{asked_references}
use Rattle.psa_lookup.proofs.StateLemmas.{on-ok}
use Rattle.psa_lookup.proofs.AskedLemmas.{in-operation, more-added}
use Rattle.psa_lookup.proofs.asked.+expression.Goals as goal

pub push_expression-returns-in-Operation : goal.push_expression-returns-in-Operation
push_expression-returns-in-Operation t c =
    on-ok c.push_expressions.result
    (λ (made : asked_references c.push_expressions.new.asked.items ≡ asked_references c.args.asked.now.items ++ flat_map (λ one. references_in (expression_outline one)) c.as_slice.result.now).
    made ∙ ap (λ (l : List Reference). asked_references c.args.asked.now.items ++ l)
    (ap (flat_map (λ one. references_in (expression_outline one))) c.as_slice.ensures ∙ sym (in-operation _ c.in-Operation.arguments) ∙ ap (λ e. references_in (expression_outline e)) (sym c.in-Operation.is)))
    c.push_expressions.ensures

pub push_expressions-loop-expression-preserved : goal.push_expressions-loop-expression-preserved
push_expressions-loop-expression-preserved t c =
    more-added (λ one. references_in (expression_outline one)) _ _ _ c.args.expressions.now c.loop-expression.expression-index c.expression-item.result c.loop-expression-test.true c.expression-item.is c.loop-expression.invariant c.in_ok-push_expression.ensures
