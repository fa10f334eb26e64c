use Rattle.psa_lookup.proofs.AskedLemmas.{member-added}
use Rattle.psa_lookup.proofs.asked.push_members.Goals as goal

pub loop-member-preserved : goal.loop-member-preserved
loop-member-preserved c =
    member-added _ _ _ c.args.members.now c.loop-member.member-index c.member-item.result c.loop-member-test.true c.member-item.is c.loop-member.invariant c.in_ok-push_member.ensures
