use Rattle.std.proofs.Common.{◌≡◌, ◌++◌, map}
use Rattle.std.specs.List.{range_with_len}
use Rattle.psa_model.specs.declared.expanded.ExpandedEvent.TheVariants.{Member}
use Rattle.psa_ccf.proofs.expansion.push_members.Given as goal

abbrev pub invariant-loop-place : goal.invariant-loop-place
invariant-loop-place l = l.events ≡ l.fn.events ++ map (λ place. Member l.id place) (range_with_len 0 l.place)
