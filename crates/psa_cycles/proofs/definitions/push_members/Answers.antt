use Rattle.psa_cycles.proofs.AddedElements.{pushed-none}
use Rattle.psa_cycles.proofs.BodyForms.{members-more, members-all}
use Rattle.psa_cycles.proofs.definitions.push_members.Goals as goal

pub loop-member-init : goal.loop-member-init
loop-member-init c = pushed-none 0 c.args.levels.now

pub loop-member-preserved : goal.loop-member-preserved
loop-member-preserved c =
    members-more c.args.members.now c.loop-member.member-index c.member-item.result _ _ _ c.loop-member-test.true c.member-item.is c.loop-member.invariant c.in_ok-push_member.ensures

pub returns : goal.returns
returns c = members-all c.args.members.now c.loop-member.member-index _ _ c.loop-member-test.false c.loop-member.invariant
