use Rattle.std.proofs.Common.{◌≡◌, ◌+◌, ◌*◌, ◌++◌, take}
use Rattle.psa_lookup.specs.States.{fork_states, path_states}
use Rattle.psa_lookup.proofs.forks.+forks.Given as goal

abbrev pub decreases-push_branch : goal.decreases-push_branch
decreases-push_branch l = 2 * l.levels

abbrev pub decreases-push_paths : goal.decreases-push_paths
decreases-push_paths l = 2 * l.levels + 1

abbrev pub invariant-push_paths-loop-path : goal.invariant-push_paths-loop-path
invariant-push_paths-loop-path l =
    fork_states l.states.items ≡ fork_states l.fn.states.items ++ path_states l.levels l.fork (take l.path-index l.paths)
