use Rattle.std.proofs.Common.{◌≡◌, ◌+◌, ◌*◌, length, take}
use Rattle.std.specs.List.{flat_map}
use Rattle.psa_names.specs.Collected.{branch_collected}
use Rattle.psa_bodies.proofs.counting.+branch.Given as goal

abbrev pub decreases-count_branch : goal.decreases-count_branch
decreases-count_branch l = 3 * l.depth

abbrev pub decreases-count_paths : goal.decreases-count_paths
decreases-count_paths l = 3 * l.depth + 1

abbrev pub decreases-count_end : goal.decreases-count_end
decreases-count_end l = 3 * l.depth + 2

abbrev pub invariant-count_paths-loop-path : goal.invariant-count_paths-loop-path
invariant-count_paths-loop-path l =
    l.count ≡ length (flat_map (λ path. branch_collected l.depth path.branch) (take l.path-index l.paths))
