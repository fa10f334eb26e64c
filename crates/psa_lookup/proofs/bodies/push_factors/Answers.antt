use Rattle.psa_model.specs.declared.draft.DraftFactor.{DraftFactor}
use Rattle.psa_names.specs.Chains.{references_in}
use Rattle.psa_names.specs.Outlines.{expression_outline}
use Rattle.psa_lookup.proofs.AskedLemmas.{more-added}
use Rattle.psa_lookup.proofs.bodies.push_factors.Goals as goal

pub loop-factor-preserved : goal.loop-factor-preserved
loop-factor-preserved c =
    more-added (λ (factor : DraftFactor). references_in (expression_outline factor.expression)) _ _ _ c.args.factors.now c.loop-factor.factor-index c.factor-item.result c.loop-factor-test.true c.factor-item.is c.loop-factor.invariant c.in_ok-push_expression.ensures
