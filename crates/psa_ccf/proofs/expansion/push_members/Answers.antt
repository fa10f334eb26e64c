use Rattle.std.proofs.Common.{arith}
use Rattle.std.proofs.lemmas.List.FromFn.{map-range_with_len_more}
use Rattle.psa_model.specs.declared.expanded.ExpandedEvent.TheVariants.{Member}
use Rattle.psa_ccf.proofs.Joined.{joined}
use Rattle.psa_ccf.proofs.expansion.push_members.Goals as goal

pub loop-place-preserved : goal.loop-place-preserved
loop-place-preserved c =
    joined c.args.events.now _ _ _ c.loop-place.events c.push.new.self c.loop-place.invariant c.in_ok-push.ensures.ok
    (map-range_with_len_more (λ place. Member c.args.id place) 0 c.loop-place.place c.loop-place.place (omega arith))
