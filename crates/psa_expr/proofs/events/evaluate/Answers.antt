use Rattle.std.proofs.Common.{Err, ap, ◌∙◌, sym}
use Rattle.psa_model.specs.Values.{values_from}
use Rattle.psa_model.proofs.HeldValues.{events-held}
use Rattle.psa_model.proofs.RightDivisions.{events-divide}
use Rattle.psa_expr.proofs.Valuing.{values-step-at, values-fault-at, values-all, same-fault}
use Rattle.psa_expr.proofs.events.evaluate.Goals as goal

pub returns-in-Err-clause-fault : goal.returns-in-Err-clause-fault
returns-in-Err-clause-fault c = λ found same.
    ap (values_from c.args.mission c.args.expanded.now.model) (sym c.as_slice-event-items.ensures)
    ∙ values-fault-at c.args.mission c.args.expanded.now.model c.as_slice-event-items.result.now c.loop-event.event-index _ c.loop-event.values c.in_ok-value.field-0 c.in-Err.kind c.loop-event-test.true c.in_ok-value.ensures.value.is c.in-Err.is c.loop-event.invariant.1
    ∙ ap Err (sym c.in_ok-fault-in-Err.ensures ∙ same-fault c.in_ok-fault-in-Err.fault found same)

pub loop-event-preserved : goal.loop-event-preserved
loop-event-preserved c = (
  c.in_ok-value.ensures.value.right,
  values-step-at c.args.mission c.args.expanded.now.model c.as_slice-event-items.result.now c.loop-event.event-index _ c.loop-event.values c.push.new.self c.in_ok-value.field-0 c.in-Ok.value c.loop-event-test.true c.in_ok-value.ensures.value.is c.in-Ok.is c.loop-event.invariant.1 c.in_ok-push-in-Ok.ensures.ok,
  c.in_ok-value.ensures.last,
)

pub returns-clause-bracket : goal.returns-clause-bracket
returns-clause-bracket c = λ terms long.
    events-held terms long c.args.mission c.args.expanded.now.model c.args.expanded.now.events c.loop-event.values
    (ap (values_from c.args.mission c.args.expanded.now.model) (sym c.as_slice-event-items.ensures)
    ∙ values-all c.args.mission c.args.expanded.now.model c.as_slice-event-items.result.now c.loop-event.event-index c.loop-event.values c.loop-event-test.false c.loop-event.invariant.1)

pub returns-clause-divisors : goal.returns-clause-divisors
returns-clause-divisors c = λ terms long.
    events-divide terms long c.args.mission c.args.expanded.now.model c.args.expanded.now.events c.loop-event.values
    (ap (values_from c.args.mission c.args.expanded.now.model) (sym c.as_slice-event-items.ensures)
    ∙ values-all c.args.mission c.args.expanded.now.model c.as_slice-event-items.result.now c.loop-event.event-index c.loop-event.values c.loop-event-test.false c.loop-event.invariant.1)
