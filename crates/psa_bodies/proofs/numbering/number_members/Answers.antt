use Rattle.psa_bodies.proofs.CountedMembers.{no-members, members-few, members-more}
use Rattle.psa_bodies.proofs.numbering.number_members.Goals as goal

pub loop-init : goal.loop-init
loop-init c = no-members c.args.members.now c.args.of_groups.now c.args.counts.now

pub number_member-requires-clause-few : goal.number_member-requires-clause-few
number_member-requires-clause-few c =
    members-few c.loop.counter c.args.members.now c.args.of_groups.now c.args.counts.now c.loop.of_groups c.loop.counts c.loop.members c.args.count c.loop.invariant c.loop-test.true c.requires.few

pub loop-preserved : goal.loop-preserved
loop-preserved c =
    members-more c.loop.counter c.args.members.now c.args.of_groups.now c.args.counts.now c.loop.of_groups c.loop.counts c.number_member.new.of_groups c.number_member.new.counts c.loop.members c.next.new.self c.next.result c.loop.invariant c.next.ensures
    c.in_ok-number_member.ensures.numbers c.in_ok-number_member.ensures.counted
