use Rattle.psa_assembly.proofs.GroupForms.{factors-none, factors-more, factors-all}
use Rattle.psa_assembly.proofs.groups.resolve_factors.Goals as goal

pub loop-factor-init : goal.loop-factor-init
loop-factor-init c = factors-none c.args.numbers.now c.args.cursor.now c.args.members c.new-made.result.items c.new-made.ensures.items

pub returns : goal.returns
returns c = factors-all c.args.numbers.now c.args.cursor.now c.loop-factor.cursor c.args.members c.args.factors.now c.loop-factor.factor-index c.loop-factor.made.items c.loop-factor-test.false c.loop-factor.invariant

pub loop-factor-preserved : goal.loop-factor-preserved
loop-factor-preserved c =
    factors-more c.args.numbers.now c.args.cursor.now c.loop-factor.cursor c.resolve_expression.new.cursor c.args.members c.args.factors.now c.loop-factor.factor-index c.factor-item.result c.loop-factor.made.items c.place_factor.new.factors.items c.unwrap_or-level.result c.in_ok-expression.expression
    c.loop-factor-test.true c.factor-item.is c.loop-factor.invariant c.unwrap_or-level.ensures c.in_ok-expression.ensures c.in_ok-place_factor.ensures
