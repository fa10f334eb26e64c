-- The first position of each state of each fork, as it is kept. (This project's own.)
use Rattle.std.specs.Prelude.{◌==◌, ℕ, Bool, List, ◌∷◌, Option, map, flat_map, ◌&&◌}
use Rattle.std.specs.Option.{option_map}
use Rattle.std.specs.Map.{lookup}
use Rattle.std.specs.Str.{bytes_eq}
use Rattle.psa_model.specs.Drafts.{Position}
use Rattle.psa_model.specs.declared.draft.DraftForkPath.{DraftForkPath}
use Rattle.psa_model.specs.declared.draft.DraftReference.{DraftReference}
use Rattle.psa_names.specs.Outlines.{ForkState, branch_states}
use Rattle.psa_lookup.specs.declared.states.State.{State}
use Rattle.psa_lookup.specs.declared.states.StateKey.{StateKey}
use Rattle.psa_lookup.specs.declared.states.Spot.{Spot}

abbrev pub fork_state : State → ForkState
fork_state one = record { fork = one.fork.now; path = one.path.now }

abbrev pub fork_states : List State → List ForkState
fork_states states = map fork_state states

abbrev pub spot_position : Spot → Position
spot_position spot = record { file = spot.file; tag = spot.tag }

-- a key is that of a state
abbrev pub is_key_of : ForkState → StateKey → Bool
is_key_of state key =
    state.fork.place.file == key.file && (state.fork.tag == key.tag && bytes_eq state.path.state key.name.now)

-- what a list of keys and positions has for a state
abbrev pub first_spot : List (StateKey × Spot) → ForkState → Option Position
first_spot entries state = option_map spot_position (lookup (is_key_of state) entries)

-- the states of the paths of a fork, in which at most so many branches stand in one another
abbrev pub path_states : ℕ → DraftReference → List DraftForkPath → List ForkState
path_states levels fork paths =
    flat_map (λ path. record { fork = fork; path = path } ∷ branch_states levels path.branch) paths
