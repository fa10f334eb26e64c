use Rattle.std.proofs.Common.{map, ap, ◌∙◌, ◌+◌}
use Rattle.std.proofs.lemmas.List.{map-append}
use Rattle.std.specs.List.{flat_map, range_with_len}
use Rattle.psa_model.specs.declared.expanded.ExpandedEvent.TheVariants.{Shared}
use Rattle.psa_ccf.specs.Sizes.{subsets_of_size}
use Rattle.psa_ccf.proofs.Choices.{sizes-step}
use Rattle.psa_ccf.proofs.Joined.{joined}
use Rattle.psa_ccf.proofs.expansion.push_subsets_of_all_sizes.Goals as goal

pub loop-smaller-preserved : goal.loop-smaller-preserved
loop-smaller-preserved c =
    joined c.args.events.now _ _ _ c.loop-smaller.events c.push_subsets_of_size.new.events c.loop-smaller.invariant c.in_ok-push_subsets_of_size.ensures
    (ap (map (λ subset. Shared c.args.id subset)) (sizes-step (subsets_of_size c.args.count) c.loop-smaller.smaller)
    ∙ map-append (λ subset. Shared c.args.id subset) (flat_map (subsets_of_size c.args.count) (range_with_len 1 c.loop-smaller.smaller)) (subsets_of_size c.args.count (c.loop-smaller.smaller + 1)))
