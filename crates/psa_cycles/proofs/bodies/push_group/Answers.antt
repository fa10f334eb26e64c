use Rattle.std.proofs.Common.{arith}
use Rattle.psa_names.specs.Outlines.{expression_outline}
use Rattle.psa_cycles.proofs.BodyForms.{group-nesting, factor-inside, factor-pushed}
use Rattle.psa_cycles.proofs.bodies.push_group.Goals as goal

pub push_expression-requires : goal.push_expression-requires
push_expression-requires c = let whole = group-nesting c.args.group.now in omega arith

pub push_expression-requires-in-loop-factor : goal.push_expression-requires-in-loop-factor
push_expression-requires-in-loop-factor c =
    let inside = factor-inside c.args.group.now c.as_slice-factor-items.result.now c.loop-factor.factor-index c.factor-item.result c.as_slice-factor-items.ensures c.loop-factor-test.true c.factor-item.is in omega arith

pub loop-factor-preserved : goal.loop-factor-preserved
loop-factor-preserved c =
    factor-pushed c.args.around (expression_outline c.args.group.now.distribution) c.as_slice-factor-items.result.now c.loop-factor.factor-index c.factor-item.result _ _ _ c.loop-factor-test.true c.factor-item.is c.loop-factor.invariant c.in_ok-push_expression-2.ensures
