use Rattle.std.proofs.Common.{refl}
use Rattle.std.proofs.lemmas.List.{get_or_default}
use Rattle.psa_prep.proofs.IndexLemmas.{subset-start, subset-more, subset-end}
use Rattle.psa_prep.proofs.event_index.note_subset.Goals as goal

pub loop-id-init : goal.loop-id-init
loop-id-init c = subset-start c.args.number c.args.subset c.args.members.now c.args.lists.now.items

pub loop-id-preserved : goal.loop-id-preserved
loop-id-preserved c =
    subset-more c.args.number c.args.subset c.args.members.now c.loop-id.id-index c.loop-id.bits _ _ _ _ _ c.loop-id-test.true
    (get_or_default c.args.members.now c.loop-id.id-index _ _ c.loop-id-test.true) refl c.loop-id.invariant c.in_ok-note_where.ensures

pub returns : goal.returns
returns c =
    subset-end c.args.number c.args.subset c.args.members.now c.loop-id.id-index c.loop-id.bits _ _ c.loop-id-test.false c.loop-id.invariant
