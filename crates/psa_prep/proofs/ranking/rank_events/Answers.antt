use Rattle.std.proofs.lemmas.Result.{err_from_is_err_and}
use Rattle.std.proofs.Common.{refl}
use Rattle.std.proofs.lemmas.List.{get_or_default}
use Rattle.psa_prep.proofs.WalkLemmas.{events-more, exceeds-events, stops-map}
use Rattle.psa_prep.proofs.ranking.rank_events.Goals as goal

pub loop-event-preserved : goal.loop-event-preserved
loop-event-preserved c =
    events-more c.args.events.now c.loop-event.event-index _ _ _ _ c.loop-event-test.true (get_or_default c.args.events.now c.loop-event.event-index 0 _ c.loop-event-test.true) c.loop-event.invariant c.in_ok-rank_event.ensures

pub returns-in_err-rank_event : goal.returns-in_err-rank_event
returns-in_err-rank_event c =
    let p = err_from_is_err_and c.from_residual.result c.from_residual.ensures.1 in
    rw (p.1, p.2) (stops-map (Unit {0}) (Unit {0}) c.in_err-rank_event.field-0.0 (Unit {0}) _ (Unit {0}) _ (exceeds-events c.args.events.now c.loop-event.event-index _ _ _ c.loop-event-test.true (get_or_default c.args.events.now c.loop-event.event-index 0 _ c.loop-event-test.true) c.loop-event.invariant) c.in_err-rank_event.ensures)

pub loop-event-init : goal.loop-event-init
loop-event-init c = record { agrees = c.requires; ranks = refl; entered = refl; collected = refl }

pub rank_event-requires : goal.rank_event-requires
rank_event-requires c = c.loop-event.invariant.agrees
