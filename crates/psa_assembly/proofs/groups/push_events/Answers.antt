use Rattle.std.proofs.Common.{◌++◌, ap, map}
use Rattle.psa_assembly.specs.Groups.{event_of_group, names_of_groups}
use Rattle.psa_assembly.proofs.EventsOfGroups.{events-more, events-all}
use Rattle.psa_assembly.proofs.groups.push_events.Goals as goal

pub loop-member-init : goal.loop-member-init
loop-member-init c = record {
  all = ap (λ ss. c.args.basics.now ++ map (event_of_group c.args.place) (names_of_groups c.args.members.now ss)) c.new-left.ensures;
}

pub loop-member-preserved : goal.loop-member-preserved
loop-member-preserved c =
    events-more c.args.place c.args.members.now c.args.senses.now c.args.basics.now c.loop-member.member-index c.member-item.result c.loop-member.left c.next.new.self c.next.result c.loop-member.basics c.push_event.new.basics
    c.loop-member-test.true c.member-item.is c.loop-member.invariant c.next.ensures c.in_ok-push_event.ensures

pub returns : goal.returns
returns c =
    events-all c.args.place c.args.members.now c.args.senses.now c.args.basics.now c.loop-member.member-index c.loop-member.left c.loop-member.basics c.loop-member-test.false c.loop-member.invariant
