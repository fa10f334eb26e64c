use Rattle.std.proofs.Common.{◌≡◌, ◌+◌, ◌*◌, map, take}
use Rattle.psa_names.specs.Outlines.{branch_outlines, joined, plain}
use Rattle.psa_cycles.specs.Levels.{with_outlines}
use Rattle.psa_cycles.proofs.bodies.+branching.Given as goal

abbrev pub decreases-push_branch : goal.decreases-push_branch
decreases-push_branch l = 3 * l.depth

abbrev pub decreases-push_end : goal.decreases-push_end
decreases-push_end l = 3 * l.depth + 2

abbrev pub decreases-push_paths : goal.decreases-push_paths
decreases-push_paths l = 3 * l.depth + 1

abbrev pub invariant-push_paths-loop-path : goal.invariant-push_paths-loop-path
invariant-push_paths-loop-path l = l.levels ≡ with_outlines l.around (joined (map (λ path. plain (branch_outlines l.depth path.branch)) (take l.path-index l.paths))) l.fn.levels
