use Rattle.std.proofs.Common.{◌≡◌, ◌++◌, map}
use Rattle.std.specs.List.{flat_map, range_with_len}
use Rattle.psa_model.specs.declared.expanded.ExpandedEvent.TheVariants.{Shared}
use Rattle.psa_ccf.specs.Sizes.{subsets_of_size}
use Rattle.psa_ccf.proofs.expansion.push_subsets_of_all_sizes.Given as goal

abbrev pub invariant-loop-smaller : goal.invariant-loop-smaller
invariant-loop-smaller l = l.events ≡ l.fn.events ++ map (λ subset. Shared l.id subset) (flat_map (subsets_of_size l.count) (range_with_len 1 l.smaller))
