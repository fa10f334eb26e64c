use Rattle.psa_bodies.proofs.JoinedInOrder.{joined-more}
use Rattle.psa_bodies.proofs.joining.join_in_order.Goals as goal

pub loop-place-preserved : goal.loop-place-preserved
loop-place-preserved c =
    joined-more c.args.lists.items c.loop-place.left.items c.take_list.new.lists.items c.args.sequence.now c.loop-place.place-index _ c.loop-place.formulas c.append.new.self c.take_list.result
    c.requires.apart c.loop-place-test.true c.loop-place.invariant c.take_list.ensures.list c.take_list.ensures.others c.in_ok-append.ensures
