-- Under which addresses a definition stands: the name spaces of `psa_names` as keys of a table. (This project's own.)
use Rattle.std.specs.Prelude.{ℕ, Bool, true, false, List, [], ◌∷◌, ◌++◌, Option, not, unwrap_or, position}
use Rattle.std.specs.List.{list_any, position_from}
use Rattle.psa_model.specs.Drafts.{same_texts}
use Rattle.psa_model.specs.PathNames.{Text}
use Rattle.psa_spaces.specs.Addresses.{Address, same_address}
use Rattle.psa_spaces.specs.Paths.{Path}
use Rattle.psa_spaces.specs.declared.key.Family.{Family}
use Rattle.psa_spaces.specs.declared.key.Family.TheVariants as kept
use Rattle.psa_spaces.specs.declared.key.Scope.TheVariants.{Whole, Inside}
use Rattle.psa_names.specs.NameSpaces as space
use Rattle.psa_names.specs.Outlines.{Entry, Entries}

-- a family as it is kept
abbrev pub kept_as : space.Family → Family
kept_as space.events = kept.Events
kept_as space.parameters = kept.Parameters
kept_as space.fault_trees = kept.FaultTrees
kept_as space.components = kept.Components
kept_as space.groups = kept.Groups
kept_as space.event_trees = kept.EventTrees
kept_as space.initiating_events = kept.InitiatingEvents
kept_as space.functional_events = kept.FunctionalEvents
kept_as space.sequences = kept.Sequences
kept_as space.branches = kept.Branches
kept_as space.rules = kept.Rules

-- Whether a definition of the family is found in the whole model. A functional event is, by tests, though another may
-- have its name.
abbrev pub has_whole : Family → Bool → Bool
has_whole kept.Events private = not private
has_whole kept.Parameters private = not private
has_whole kept.Components private = false
has_whole kept.Sequences private = false
has_whole kept.Branches private = false
has_whole _ private = true

-- whether it is found in the container or event tree that it stands directly in, or in none
abbrev pub has_inside : Family → Bool → Bool
has_inside kept.Events contained = contained
has_inside kept.Parameters contained = contained
has_inside kept.Components contained = true
has_inside kept.FunctionalEvents contained = true
has_inside kept.Sequences contained = true
has_inside kept.Branches contained = true
has_inside _ contained = false

-- only one definition may have a name in the whole model
abbrev pub is_one_in_whole : Family → Bool
is_one_in_whole kept.FunctionalEvents = false
is_one_in_whole _ = true

abbrev pub is_contained : List Text → Bool
is_contained [] = false
is_contained (name ∷ names) = true

abbrev pub whole_address : Family → Text → Address
whole_address family name = record { scope = Whole; family = family; within = 0; name = name }

abbrev pub inside_address : Family → ℕ → Text → Address
inside_address family number name = record { scope = Inside; family = family; within = number; name = name }

abbrev pub only_if : Bool → Address → List Address
only_if true address = address ∷ []
only_if false address = []

abbrev pub family_kept : Entry → Family
family_kept one = kept_as (space.family_of one.kind)

abbrev pub whole_wanted : Entry → Bool
whole_wanted one = has_whole (family_kept one) one.private

abbrev pub inside_wanted : Entry → Bool
inside_wanted one = has_inside (family_kept one) (is_contained one.container)

-- the addresses of a definition whose container has this number
abbrev pub addresses_with : ℕ → Entry → List Address
addresses_with number one =
    only_if (whole_wanted one) (whole_address (family_kept one) one.name)
    ++ only_if (inside_wanted one) (inside_address (family_kept one) number one.name)

-- the number of a container
abbrev pub number_of : List Path → Path → ℕ
number_of paths path = unwrap_or (position (same_texts path) paths) 0

abbrev pub stands_at : List Path → Address → Entry → Bool
stands_at paths address one = list_any (λ its. same_address its address) (addresses_with (number_of paths one.container) one)

-- the first of some definitions that stands at an address
abbrev pub first_with : List Path → Entries → Address → Option ℕ
first_with paths entries address = position_from (stands_at paths address) 0 entries
