-- The name spaces, and what has a name in them. (This project's own.)
use Rattle.std.specs.Prelude.{◌==◌, ℕ, Bool, true, false, List, [], ◌∷◌, ◌++◌, map, flat_map, ◌&&◌, if◌then◌else◌}
use Rattle.std.specs.List.{list_any}
use Rattle.std.specs.Str.{bytes_eq}
use Rattle.psa_model.specs.Drafts.{Position, position_of, reference_position, path_position, stands_before, same_position, same_texts}
use Rattle.psa_model.specs.PathNames.{Text}
use Rattle.psa_model.specs.declared.ids.Place.{Place}
use Rattle.psa_model.specs.declared.draft.DefinitionKind.{DefinitionKind}
use Rattle.psa_model.specs.declared.draft.DefinitionKind.TheVariants as kind
use Rattle.psa_names.specs.Outlines.{Entry, Entries, ForkState}

-- a family of definitions that share name spaces; gates, basic events and house events are one
pub data Family : Type 0 where
  events parameters fault_trees components groups event_trees initiating_events : Family
  functional_events sequences branches rules : Family

-- the family of a kind of definitions: those whose names are apart in a space
abbrev pub family_of : DefinitionKind → Family
family_of kind.FaultTree = fault_trees
family_of kind.Gate = events
family_of kind.BasicEvent = events
family_of kind.HouseEvent = events
family_of kind.Parameter = parameters
family_of kind.Group = groups
family_of kind.InitiatingEvent = initiating_events
family_of kind.EventTree = event_trees
family_of kind.FunctionalEvent = functional_events
family_of kind.Sequence = sequences
family_of kind.Branch = branches
family_of kind.Rule = rules
family_of kind.Component = components

-- the families, numbered to be compared
abbrev pub family_number : Family → ℕ
family_number events = 0
family_number parameters = 1
family_number fault_trees = 2
family_number components = 3
family_number groups = 4
family_number event_trees = 5
family_number initiating_events = 6
family_number functional_events = 7
family_number sequences = 8
family_number branches = 9
family_number rules = 10

-- two families are the same
abbrev pub same_family : Family → Family → Bool
same_family one other = family_number one == family_number other

-- an entry is of this family
abbrev pub is_in_family : Family → Entry → Bool
is_in_family family one = same_family (family_of one.kind) family

-- A name space: that of a family over the whole model, in which private definitions have no name; that of a family
-- directly in a container or an event tree, by the names around; and that of the states of a fork, by the position of
-- its element. Names tell containers apart: of two containers with one name the later is itself a duplicate, and stands
-- before all that is in it.
pub data Space : Type 0 where
  whole_model : Family → Space
  directly_in : Family → List Text → Space
  states_of_fork : Position → Space

-- two spaces are the same
abbrev pub same_space : Space → Space → Bool
same_space (whole_model family) (whole_model other) = same_family family other
same_space (directly_in family around) (directly_in other around_other) =
    same_family family other && same_texts around around_other
same_space (states_of_fork position) (states_of_fork other) = same_position position other
same_space _ _ = false

-- events and parameters may be private, and are searched in containers
abbrev pub is_scoped : Family → Bool
is_scoped events = true
is_scoped parameters = true
is_scoped _ = false

-- components, and what stands in an event tree, have their names inside what is around them
abbrev pub is_inner : Family → Bool
is_inner components = true
is_inner functional_events = true
is_inner sequences = true
is_inner branches = true
is_inner _ = false

-- the spaces of a definition that may be private: the whole model where it is public, and its container if any
abbrev pub scoped_spaces : Family → Entry → List Space
scoped_spaces family one = (if one.private then [] else whole_model family ∷ []) ++ in_container one.container
  where
    in_container : List Text → List Space
    in_container [] = []
    in_container (name ∷ names) = directly_in family (name ∷ names) ∷ []

-- the spaces in which a definition has its name
abbrev pub spaces_of : Entry → List Space
spaces_of one = of_family (family_of one.kind)
  where
    of_family : Family → List Space
    of_family family =
        if is_scoped family then scoped_spaces family one
        else if is_inner family then directly_in family one.container ∷ []
        else whole_model family ∷ []

-- what has a name: a definition, or a state of a fork
pub record Named : Type 0 where
  pub position : Position
  pub place : Place
  pub name : Text
  pub spaces : List Space

-- a path of a fork as something that has a name in its fork
abbrev pub named_state : ForkState → Named
named_state one = record {
  position = path_position one.path;
  place = one.path.place;
  name = one.path.state;
  spaces = states_of_fork (reference_position one.fork) ∷ [];
}

-- what an entry names: itself, and the states of its forks
abbrev pub named_in : Entry → List Named
named_in one =
    record { position = position_of one.definition; place = one.place; name = one.name; spaces = spaces_of one }
    ∷ map named_state one.states

-- all that has a name in a draft, in document order
abbrev pub all_named : Entries → List Named
all_named entries = flat_map named_in entries

-- two stand in a common space
abbrev pub share_space : Named → Named → Bool
share_space one other = list_any (λ space. list_any (same_space space) other.spaces) one.spaces

-- the name of one stands before it in one of its spaces, as that of the other
abbrev pub repeats : Named → Named → Bool
repeats one other = stands_before other.position one.position && bytes_eq other.name one.name && share_space one other
