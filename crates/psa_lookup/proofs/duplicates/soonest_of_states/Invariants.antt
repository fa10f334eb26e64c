use Rattle.std.proofs.Common.{◌≡◌, flat_map, take}
use Rattle.std.specs.Option.{option_map}
use Rattle.psa_names.specs.PlacedFaults.{earliest}
use Rattle.psa_lookup.specs.Repeats.{state_repeat}
use Rattle.psa_lookup.specs.Sooner.{placed_fault, sooner_of}
use Rattle.psa_lookup.specs.States.{first_spot, fork_states}
use Rattle.psa_lookup.proofs.duplicates.soonest_of_states.Given as goal

abbrev pub invariant-loop-state : goal.invariant-loop-state
invariant-loop-state l =
    option_map placed_fault l.soonest
    ≡ sooner_of (option_map placed_fault l.fn.first) (earliest (flat_map (state_repeat (first_spot l.least)) (fork_states (take l.state-index l.states))))
