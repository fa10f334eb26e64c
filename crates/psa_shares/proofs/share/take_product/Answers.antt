use Rattle.psa_shares.proofs.EventShareLemmas.{taking-all, taking-next, taking-none, taking-within}
use Rattle.psa_shares.proofs.share.take_product.Goals as goal

pub loop-literal-init : goal.loop-literal-init
loop-literal-init c = taking-none c.args.bound c.args.product.now c.args.shares.now c.requires.places

pub bounds-shares-place : goal.bounds-shares-place
bounds-shares-place c =
    taking-within c.args.bound c.args.product.now c.loop-literal.literal-index _ c.args.shares.now
    c.loop-literal.shares c.loop-literal-test.true c.loop-literal.invariant

pub bounds-shares-place-in-loop-literal : goal.bounds-shares-place-in-loop-literal
bounds-shares-place-in-loop-literal c =
    taking-within c.args.bound c.args.product.now c.loop-literal.literal-index _ c.args.shares.now
    c.loop-literal.shares c.loop-literal-test.true c.loop-literal.invariant

pub loop-literal-preserved : goal.loop-literal-preserved
loop-literal-preserved c =
    taking-next c.args.bound c.args.product.now c.loop-literal.literal-index _ c.args.shares.now
    c.loop-literal.shares c.loop-literal-test.true c.loop-literal.invariant
    c.index-shares-place.result c.with.result c.index-shares-place.is c.with.ensures

pub returns-clause-count : goal.returns-clause-count
returns-clause-count c = c.loop-literal.invariant.count

pub returns-clause-each : goal.returns-clause-each
returns-clause-each c = λ rank default within.
    taking-all c.args.bound c.args.product.now c.loop-literal.literal-index c.args.shares.now
    c.loop-literal.shares c.loop-literal-test.false c.loop-literal.invariant rank default within
