use Rattle.std.proofs.Common.{◌≡◌, ◌<◌, ◌+◌, ◌-◌, ℕ, length, subst, arith}
use Rattle.std.proofs.lemmas.List.{get_or_default}
use Rattle.psa_prep.proofs.ConnectiveLemmas.{GatheredSome, gather-start, gather-more, operand-stands}
use Rattle.psa_prep.proofs.connectives.gather.Goals as goal

pub loop-place-init : goal.loop-place-init
loop-place-init c = rw c.constant-pair.ensures (gather-start c.args.context.now c.args.operands.now c.args.signs c.args.both (length c.args.operands.now.pairs.now) _ c.requires.operands (omega arith) c.requires.sound)

pub join_pair-requires-clause-left : goal.join_pair-requires-clause-left
join_pair-requires-clause-left c =
    let inside : c.loop-place.place - 1 < length c.args.operands.now.pairs.now = omega arith in
    operand-stands c.args.context.now c.args.operands.now c.args.builder.now c.loop-place.builder _ (c.loop-place.place - 1) _ c.requires.operands inside
    (get_or_default c.args.operands.now.pairs.now (c.loop-place.place - 1) _ _ inside) c.loop-place.invariant.grown

pub loop-place-preserved : goal.loop-place-preserved
loop-place-preserved c =
    let inside : c.loop-place.place - 1 < length c.args.operands.now.pairs.now = omega arith in
    let next : c.loop-place.place ≡ c.loop-place.place - 1 + 1 = omega arith in
    gather-more c.args.context.now c.args.operands.now c.args.signs c.args.both (c.loop-place.place - 1) c.args.builder.now c.loop-place.builder _ c.loop-place.pair _ _ c.requires.operands inside
    (get_or_default c.args.operands.now.pairs.now (c.loop-place.place - 1) _ _ inside)
    (subst (λ (n : ℕ). GatheredSome c.args.context.now c.args.operands.now c.args.signs c.args.both n c.args.builder.now c.loop-place.builder c.loop-place.pair) next c.loop-place.invariant) c.in_ok-pair.ensures

pub returns : goal.returns
returns c =
    let none : c.loop-place.place ≡ 0 = omega arith in
    subst (λ (n : ℕ). GatheredSome c.args.context.now c.args.operands.now c.args.signs c.args.both n c.args.builder.now c.loop-place.builder c.loop-place.pair) none c.loop-place.invariant
