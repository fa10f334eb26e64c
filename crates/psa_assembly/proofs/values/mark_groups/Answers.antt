use Rattle.std.proofs.Common.{get_or, false, ap, ◌∙◌, ◌||◌}
use Rattle.std.specs.List.{list_any}
use Rattle.std.proofs.lemmas.List.{take_all}
use Rattle.psa_assembly.specs.Values.{has_member, is_among}
use Rattle.psa_assembly.proofs.Marks.{any-next}
use Rattle.psa_assembly.proofs.values.mark_groups.Goals as goal

pub loop-group-init : goal.loop-group-init
loop-group-init c = λ id. ap (λ ms. get_or ms id false) c.new-marks.ensures

pub loop-group-preserved : goal.loop-group-preserved
loop-group-preserved c = λ id.
    any-next (has_member id) c.args.groups.now c.loop-group.group-index c.group-item.result _ _ c.loop-group-test.true c.group-item.is (c.loop-group.invariant id)
    (c.in_ok-mark_members.ensures id ∙ ap (λ ms. get_or c.loop-group.marks id false || is_among id ms) c.as_slice.ensures)

pub returns : goal.returns
returns c = λ id.
    c.loop-group.invariant id ∙ ap (list_any (has_member id)) (take_all c.loop-group.group-index c.args.groups.now c.loop-group-test.false)
