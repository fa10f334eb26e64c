use Rattle.std.proofs.Common.{◌+◌, ◌*◌, map, take}
use Rattle.std.specs.List.{flat_map}
use Rattle.psa_bodies.specs.Collecting.{Collects, listed}
use Rattle.psa_bodies.specs.Branches.{path_value, path_formulas, path_references}
use Rattle.psa_bodies.proofs.branches.+branch.Given as goal

abbrev pub decreases-resolve_branch : goal.decreases-resolve_branch
decreases-resolve_branch l = 4 * l.depth

abbrev pub decreases-resolve_path : goal.decreases-resolve_path
decreases-resolve_path l = 4 * l.depth + 1

abbrev pub decreases-resolve_paths : goal.decreases-resolve_paths
decreases-resolve_paths l = 4 * l.depth + 2

abbrev pub decreases-resolve_end : goal.decreases-resolve_end
decreases-resolve_end l = 4 * l.depth + 3

abbrev pub invariant-resolve_paths-loop-path : goal.invariant-resolve_paths-loop-path
invariant-resolve_paths-loop-path l =
    Collects l.numbers l.initial.cursor l.cursor l.initial.collected l.collected
    (flat_map (path_references l.depth) (take l.path-index l.paths)) (flat_map (path_formulas l.depth) (take l.path-index l.paths))
    (λ entries from. listed (map (path_value l.depth entries from) (take l.path-index l.paths))) l.made
