use Rattle.std.proofs.Common.{refl}
use Rattle.psa_assembly.proofs.GroupForms.{paths-more, paths-all}
use Rattle.psa_bodies.proofs.ReadingInOrder.{reads-none}
use Rattle.psa_assembly.proofs.groups.skip_paths.Goals as goal

pub loop-member-init : goal.loop-member-init
loop-member-init c = reads-none c.args.numbers.now c.args.cursor.now _ _ (λ entries from. refl)

pub loop-member-preserved : goal.loop-member-preserved
loop-member-preserved c =
    paths-more c.args.numbers.now c.args.cursor.now c.loop-member.cursor c.skip_path.new.cursor c.args.members.now c.loop-member.member-index c.member-item.result c.loop-member-test.true c.member-item.is c.loop-member.invariant c.skip_path.ensures

pub returns : goal.returns
returns c = paths-all c.args.numbers.now c.args.cursor.now c.loop-member.cursor c.args.members.now c.loop-member.member-index c.loop-member-test.false c.loop-member.invariant
