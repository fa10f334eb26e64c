use Rattle.std.proofs.Common.{◌≡◌, ◌+◌, ◌*◌, drop}
use Rattle.psa_model.specs.Paths.{fork_arrivals, below}
use Rattle.psa_walk.specs.Walks.{gather}
use Rattle.psa_walk.proofs.branches.+walking.Given as goal

abbrev pub decreases-walk_branch : goal.decreases-walk_branch
decreases-walk_branch l = 5 * l.depth

abbrev pub decreases-follow_link : goal.decreases-follow_link
decreases-follow_link l = 5 * l.depth + 1

abbrev pub decreases-walk_fork : goal.decreases-walk_fork
decreases-walk_fork l = 5 * l.depth + 1

abbrev pub decreases-walk_link : goal.decreases-walk_link
decreases-walk_link l = 5 * l.depth + 2

abbrev pub decreases-walk_sequence : goal.decreases-walk_sequence
decreases-walk_sequence l = 5 * l.depth + 3

abbrev pub decreases-walk_end : goal.decreases-walk_end
decreases-walk_end l = 5 * l.depth + 4

abbrev pub invariant-walk_fork-loop-path : goal.invariant-walk_fork-loop-path
invariant-walk_fork-loop-path l = record {
  gathered : gather (fork_arrivals (below l.depth l.walk.model.now l.walk.initiating.0) l.left l.fn.travelled (drop l.path-index l.paths) l.event) l.gathered
      ≡ gather (fork_arrivals (below l.depth l.walk.model.now l.walk.initiating.0) l.left l.fn.travelled l.paths l.event) l.fn.gathered;
  back : l.travelled ≡ l.fn.travelled;
}
