use Rattle.std.proofs.Common.{◌≡◌, take}
use Rattle.psa_names.specs.Outlines.{ForkState}
use Rattle.psa_lookup.specs.Repeats.{least_from}
use Rattle.psa_lookup.specs.States.{first_spot, fork_states}
use Rattle.psa_lookup.proofs.forks.note_states.Given as goal

abbrev pub invariant-loop-state : goal.invariant-loop-state
invariant-loop-state l =
    (other : ForkState) → first_spot l.first other ≡ least_from other (first_spot l.fn.first other) (fork_states (take l.state-index l.states))
