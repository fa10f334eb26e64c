use Rattle.std.proofs.Common.{◌≡◌, ◌∙◌, Some, sym, arith}
use Rattle.psa_model.specs.Ranks.{ranks_of}
use Rattle.psa_prep.specs.Lowering.{rank_at, world_of}
use Rattle.psa_prep.proofs.EventLemmas.{rank-below, event-literal, event-missing}
use Rattle.psa_prep.proofs.events.lower_event.Goals as goal

pub literal-requires-clause-rank : goal.literal-requires-clause-rank
literal-requires-clause-rank c =
    let at : rank_at c.args.event 0 (ranks_of c.args.context.now.expanded.now c.args.context.now.target.now) ≡ Some c.in-Some.rank.now = sym (c.requires.context.has_ranks c.args.event) ∙ sym c.in-Some.ensures.value in
    let l = rank-below c.args.event 0 c.in-Some.rank.now (ranks_of c.args.context.now.expanded.now c.args.context.now.target.now) at in
    let width = c.requires.sound.width in omega arith

pub literal-requires-in-Some-clause-rank : goal.literal-requires-in-Some-clause-rank
literal-requires-in-Some-clause-rank c =
    let at : rank_at c.args.event 0 (ranks_of c.args.context.now.expanded.now c.args.context.now.target.now) ≡ Some c.in-Some.rank.now = sym (c.requires.context.has_ranks c.args.event) ∙ sym c.in-Some.ensures.value in
    let l = rank-below c.args.event 0 c.in-Some.rank.now (ranks_of c.args.context.now.expanded.now c.args.context.now.target.now) at in
    let width = c.requires.sound.width in
    let same = c.in_ok-yes-in-Some.ensures.width in omega arith

pub returns-in_ok-no-in-Some : goal.returns-in_ok-no-in-Some
returns-in_ok-no-in-Some c =
    event-literal (world_of c.args.context.now) c.args.signs c.args.event c.in-Some.rank.now _ _ _ _ _ c.requires.sound
    (sym (c.requires.context.has_ranks c.args.event) ∙ sym c.in-Some.ensures.value) c.in_ok-yes-in-Some.ensures c.in_ok-no-in-Some.ensures

pub returns-in-None : goal.returns-in-None
returns-in-None c = rw c.constant.ensures (event-missing (world_of c.args.context.now) c.args.signs c.args.event _ c.requires.sound (sym (c.requires.context.has_ranks c.args.event) ∙ sym c.in-None.ensures.value))
