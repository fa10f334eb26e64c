use Rattle.std.proofs.Common.{◌≡◌, take, map}
use Rattle.psa_names.specs.Outlines.{ForkState, entry_of}
use Rattle.psa_lookup.specs.Repeats.{least_state}
use Rattle.psa_lookup.specs.States.{first_spot}
use Rattle.psa_lookup.proofs.forks.first_states.Given as goal

abbrev pub invariant-loop-definition : goal.invariant-loop-definition
invariant-loop-definition l =
    (state : ForkState) → first_spot l.first state ≡ least_state (map entry_of (take l.definition-index l.definitions)) state
