-- Names that stand twice, one definition after the other. (This project's own.)
use Rattle.std.specs.Prelude.{ℕ, Bool, false, List, [], ◌∷◌, ◌++◌, Option, Some, None, is_some, flat_map, ◌&&◌, ◌||◌, if◌then◌else◌}
use Rattle.std.specs.Str.{bytes_eq}
use Rattle.psa_model.specs.Drafts.{Position, path_position, reference_position, same_position, stands_before}
use Rattle.psa_model.specs.declared.fault.FaultKind.TheVariants.{Duplicate}
use Rattle.psa_spaces.specs.Addresses.{Address}
use Rattle.psa_spaces.specs.Paths.{Path}
use Rattle.psa_names.specs.Outlines.{Entry, Entries, ForkState}
use Rattle.psa_names.specs.PlacedFaults.{PlacedFault, fault_at, fault_of}
use Rattle.psa_lookup.specs.Keys.{family_kept, whole_wanted, inside_wanted, whole_address, inside_address, is_one_in_whole, number_of, first_with}

-- ---- definitions

-- a definition before has the name of one in one of its spaces: where `first` gives the first definition at an address
abbrev pub is_noted_by : (Address → Option ℕ) → ℕ → Entry → Bool
is_noted_by first number one =
    (whole_wanted one && is_some (first (whole_address (family_kept one) one.name)) && is_one_in_whole (family_kept one))
    || (inside_wanted one && is_some (first (inside_address (family_kept one) number one.name)))

abbrev pub repeats_before : List Path → Entries → Entry → Bool
repeats_before paths before one = is_noted_by (first_with paths before) (number_of paths one.container) one

-- ---- the states of forks

-- states of one fork with one name
abbrev pub same_state : ForkState → ForkState → Bool
same_state one other =
    same_position (reference_position one.fork) (reference_position other.fork) && bytes_eq one.path.state other.path.state

abbrev pub lesser : Option Position → Position → Option Position
lesser None position = Some position
lesser (Some other) position = if stands_before position other then Some position else Some other

-- the first position of a state, after some more
abbrev pub least_from : ForkState → Option Position → List ForkState → Option Position
least_from state first [] = first
least_from state first (one ∷ others) =
    least_from state (if same_state state one then lesser first (path_position one.path) else first) others

abbrev pub states_in : Entries → List ForkState
states_in entries = flat_map (λ one. one.states) entries

abbrev pub least_state : Entries → ForkState → Option Position
least_state entries state = least_from state None (states_in entries)

abbrev pub is_behind : Option Position → Position → Bool
is_behind None position = false
is_behind (Some first) position = stands_before first position

-- ---- all, in order

abbrev pub state_fault : ForkState → PlacedFault
state_fault one = fault_at Duplicate (path_position one.path) one.path.place one.path.state

abbrev pub state_repeat : (ForkState → Option Position) → ForkState → List PlacedFault
state_repeat least one = if is_behind (least one) (path_position one.path) then state_fault one ∷ [] else []

abbrev pub definition_repeat : Bool → Entry → List PlacedFault
definition_repeat repeats one = if repeats then fault_of Duplicate one ∷ [] else []

abbrev pub repeats_at : List Path → (ForkState → Option Position) → Entries → Entry → List PlacedFault
repeats_at paths least before one =
    definition_repeat (repeats_before paths before one) one ++ flat_map (state_repeat least) one.states

abbrev pub repeats_from : List Path → (ForkState → Option Position) → Entries → Entries → List PlacedFault
repeats_from paths least before [] = []
repeats_from paths least before (one ∷ others) =
    repeats_at paths least before one ++ repeats_from paths least (before ++ one ∷ []) others
