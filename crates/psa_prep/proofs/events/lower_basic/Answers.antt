use Rattle.std.proofs.Common.{◌≡◌, ◌<◌, ◌+◌, ◌-◌, ◌∙◌, ℕ, length, subst, arith}
use Rattle.std.proofs.lemmas.List.{get_or_default}
use Rattle.psa_prep.specs.Lowering.{world_of, houses_of}
use Rattle.psa_prep.specs.Sound.{Made}
use Rattle.psa_prep.proofs.EventLemmas.{some_of, some-start, some-more, some-end}
use Rattle.psa_prep.proofs.IndexLemmas.{indexed}
use Rattle.psa_prep.proofs.events.lower_basic.Goals as goal

pub loop-place-init : goal.loop-place-init
loop-place-init c = rw c.constant-pair.ensures (some-start (world_of c.args.context.now) c.args.signs c.get-events.result.now (length c.get-events.result.now) _ (omega arith) c.requires.sound)

pub lower_event-requires-clause-sound : goal.lower_event-requires-clause-sound
lower_event-requires-clause-sound c = c.loop-place.invariant.sound

pub join_pair-requires-clause-built : goal.join_pair-requires-clause-built
join_pair-requires-clause-built c = c.in_ok-literal.ensures.sound.built

pub loop-place-preserved : goal.loop-place-preserved
loop-place-preserved c =
    let are = c.get-events.ensures ∙ indexed c.args.context.now.expanded.now c.args.context.now.index.now c.args.id.0 c.requires.context.has_index c.requires.stands in
    let inside : c.loop-place.place - 1 < length c.get-events.result.now = omega arith in
    let next : c.loop-place.place ≡ c.loop-place.place - 1 + 1 = omega arith in
    some-more (world_of c.args.context.now) (houses_of c.args.context.now) c.args.signs c.args.id c.get-events.result.now (c.loop-place.place - 1) _
    c.args.builder.now c.loop-place.builder _ _ c.loop-place.pair _ _ c.requires.meets are inside
    (get_or_default c.get-events.result.now (c.loop-place.place - 1) 0 _ inside)
    (subst (λ (n : ℕ). Made (world_of c.args.context.now) c.args.signs (some_of (world_of c.args.context.now) c.get-events.result.now n) c.args.builder.now c.loop-place.builder c.loop-place.pair) next c.loop-place.invariant) c.in_ok-literal.ensures c.in_ok-pair.ensures

pub returns : goal.returns
returns c =
    let are = c.get-events.ensures ∙ indexed c.args.context.now.expanded.now c.args.context.now.index.now c.args.id.0 c.requires.context.has_index c.requires.stands in
    let none : c.loop-place.place ≡ 0 = omega arith in
    some-end (world_of c.args.context.now) (houses_of c.args.context.now) c.args.signs c.args.id c.get-events.result.now _ _ _ are
    (subst (λ (n : ℕ). Made (world_of c.args.context.now) c.args.signs (some_of (world_of c.args.context.now) c.get-events.result.now n) c.args.builder.now c.loop-place.builder c.loop-place.pair) none c.loop-place.invariant)
