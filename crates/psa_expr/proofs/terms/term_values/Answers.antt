use Rattle.std.proofs.lemmas.List.{get_or_default}
use Rattle.psa_expr.proofs.Settling.{collected-more, collected-failed, collected-all}
use Rattle.psa_expr.proofs.terms.term_values.Goals as goal

pub returns-in-Err : goal.returns-in-Err
returns-in-Err c =
    collected-failed c.args.setting.now.mission c.args.setting.now.model.now c.args.group.now c.args.terms.now c.loop-term.term-index _ c.loop-term.known c.term_value.new.known c.loop-term.values c.in_ok-value.field-0 c.in-Err.fault c.loop-term-test.true
    c.in_ok-value.ensures c.in-Err.is
    (get_or_default c.args.terms.now c.loop-term.term-index _ _ c.loop-term-test.true) c.loop-term.invariant

pub loop-term-preserved : goal.loop-term-preserved
loop-term-preserved c =
    collected-more c.args.setting.now.mission c.args.setting.now.model.now c.args.group.now c.args.terms.now c.loop-term.term-index _ c.loop-term.known c.term_value.new.known c.loop-term.values c.push.new.self c.in_ok-value.field-0 c.in-Ok.value c.loop-term-test.true
    c.in_ok-value.ensures c.in-Ok.is
    (get_or_default c.args.terms.now c.loop-term.term-index _ _ c.loop-term-test.true) c.loop-term.invariant
    c.in_ok-push-in-Ok.ensures.ok

pub returns : goal.returns
returns c =
    collected-all c.args.setting.now.mission c.args.setting.now.model.now c.args.group.now c.args.terms.now c.loop-term.term-index c.loop-term.known c.loop-term.values c.loop-term-test.false c.loop-term.invariant
