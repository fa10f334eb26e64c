use Rattle.std.proofs.Common.{get_or, false, ap, ◌∙◌, eqb, ◌||◌}
use Rattle.std.proofs.lemmas.List.{take_all}
use Rattle.psa_model.specs.declared.ids.EventId.{EventId}
use Rattle.psa_assembly.specs.Values.{is_among}
use Rattle.psa_assembly.proofs.Marks.{or-false, any-behind}
use Rattle.psa_assembly.proofs.values.mark_members.Goals as goal

pub loop-member-init : goal.loop-member-init
loop-member-init c = λ id. or-false (get_or c.args.marks.now id false)

pub loop-member-preserved : goal.loop-member-preserved
loop-member-preserved c = λ id.
    any-behind (λ (member : EventId). eqb member.0 id) c.args.members.now c.loop-member.member-index _ _ _ _ c.loop-member-test.true (c.loop-member.invariant id) (c.in_ok-mark_member.ensures id)

pub returns : goal.returns
returns c = λ id.
    c.loop-member.invariant id ∙ ap (λ ms. get_or c.args.marks.now id false || is_among id ms) (take_all c.loop-member.member-index c.args.members.now c.loop-member-test.false)
