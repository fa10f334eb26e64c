use Rattle.psa_assembly.proofs.GroupForms.{first-more}
use Rattle.psa_assembly.proofs.groups.resolve_members.Goals as goal

pub loop-preserved : goal.loop-preserved
loop-preserved c =
    first-more c.args.numbers.now c.args.members.now c.loop.counter c.next.result c.loop.made c.push_member.new.made c.loop.members c.next.new.self c.loop.invariant c.next.ensures c.in_ok-push_member.ensures
