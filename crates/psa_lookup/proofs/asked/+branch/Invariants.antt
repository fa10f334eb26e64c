use Rattle.std.proofs.Common.{◌≡◌, ◌+◌, ◌*◌, ◌++◌, take}
use Rattle.psa_lookup.specs.Asking.{asked_references, paths_references}
use Rattle.psa_lookup.proofs.asked.+branch.Given as goal

abbrev pub decreases-push_branch : goal.decreases-push_branch
decreases-push_branch l = 3 * l.levels

abbrev pub decreases-push_paths : goal.decreases-push_paths
decreases-push_paths l = 3 * l.levels + 1

abbrev pub decreases-push_end : goal.decreases-push_end
decreases-push_end l = 3 * l.levels + 2

abbrev pub invariant-push_paths-loop-path : goal.invariant-push_paths-loop-path
invariant-push_paths-loop-path l =
    asked_references l.asked.items ≡ asked_references l.fn.asked.items ++ paths_references l.levels (take l.path-index l.paths)
