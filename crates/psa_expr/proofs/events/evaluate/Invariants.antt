use Rattle.std.proofs.Common.{◌≡◌, Ok, take}
use Rattle.psa_model.specs.Values.{values_from}
use Rattle.psa_expr.specs.Answers.{AllRight}
use Rattle.psa_expr.specs.Events.{ServesItsSize}
use Rattle.psa_expr.proofs.events.evaluate.Given as goal

abbrev pub invariant-loop-event : goal.invariant-loop-event
invariant-loop-event l =
    AllRight l.fn.mission l.fn.expanded.model l.known × (values_from l.fn.mission l.fn.expanded.model (take l.event-index l.event-items) ≡ Ok l.values)
    × ServesItsSize l.fn.mission l.fn.expanded.model l.last
