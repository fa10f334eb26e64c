use Rattle.std.proofs.Common.{◌<◌, ◌≤◌, length, ◌∙◌, ap, arith}
use Rattle.psa_prep.specs.Index.{empties}
use Rattle.psa_prep.proofs.ListLemmas.{item-of}
use Rattle.psa_prep.proofs.IndexLemmas.{indexed-start, indexed-more, indexed-end}
use Rattle.psa_prep.proofs.event_index.EventIndex.of.Goals as goal

pub loop-number-init : goal.loop-number-init
loop-number-init c = indexed-start c.args.expanded.now c.in_ok-lists.lists.items (c.in_ok-lists.ensures ∙ ap empties c.len.ensures)

pub loop-number-preserved : goal.loop-number-preserved
loop-number-preserved c =
    let inside : c.loop-number.number < length c.args.expanded.now.events = omega (arith, ap length c.as_slice-event-items.ensures) in
    indexed-more c.args.expanded.now c.loop-number.number _ c.loop-number.lists.items c.note_event.new.lists.items inside (item-of _ _ c.loop-number.number _ c.as_slice-event-items.ensures inside) c.loop-number.invariant c.in_ok-note_event.ensures

pub returns : goal.returns
returns c =
    let past : length c.args.expanded.now.events ≤ c.loop-number.number = omega (arith, ap length c.as_slice-event-items.ensures) in
    indexed-end c.args.expanded.now c.loop-number.number c.loop-number.lists.items past c.loop-number.invariant
