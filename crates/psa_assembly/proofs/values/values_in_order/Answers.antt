use Rattle.std.proofs.Common.{get_or, false, ap, ◌∙◌}
use Rattle.std.specs.List.{list_any}
use Rattle.psa_assembly.specs.Values.{has_member}
use Rattle.psa_assembly.proofs.ValuesInOrder.{values-more, values-all}
use Rattle.psa_assembly.proofs.values.values_in_order.Goals as goal

pub loop-numbered-preserved : goal.loop-numbered-preserved
loop-numbered-preserved c =
    values-more (λ id. get_or c.as_slice.result.now id false) (λ id. list_any (has_member id) c.args.groups.now) c.as_slice-numbered-items.result.now c.loop-numbered.numbered-index _ c.loop-numbered.order _
    (λ id. ap (λ ms. get_or ms id false) c.as_slice.ensures ∙ c.in_ok-marks.ensures id) c.loop-numbered-test.true c.loop-numbered.invariant c.in_ok-push_valued.ensures

pub returns : goal.returns
returns c =
    values-all (λ id. list_any (has_member id) c.args.groups.now) c.args.numbers.now.definitions c.as_slice-numbered-items.result.now c.loop-numbered.numbered-index c.loop-numbered.order c.as_slice-numbered-items.ensures c.loop-numbered-test.false c.loop-numbered.invariant
