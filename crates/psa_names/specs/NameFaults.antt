-- The five checks of names, and the first fault. Each check gives all its faults with their places in the document; the
-- fault of a check is the one that stands first, and the fault of names is that of the first check that has one. (The
-- checks and their order are this project's own.)
use Rattle.std.specs.Prelude.{Bool, true, false, List, Option, Some, None, map, length, slice_get, take, filter, filter_map, flat_map, ◌&&◌, not, if◌then◌else◌}
use Rattle.std.specs.List.{list_any, enumerate_from}
use Rattle.std.specs.Option.{option_map, option_map_or}
use Rattle.psa_model.specs.Drafts.{reference_position}
use Rattle.psa_model.specs.declared.fault.FaultKind.{FaultKind}
use Rattle.psa_model.specs.declared.fault.FaultKind.TheVariants as fault
use Rattle.psa_model.specs.declared.fault.ModelFault.{ModelFault}
use Rattle.psa_model.specs.declared.model.TheConstants.{MAX_DEPTH}
use Rattle.psa_model.specs.declared.draft.Draft.{Draft}
use Rattle.psa_model.specs.declared.draft.DefinitionKind.{DefinitionKind}
use Rattle.psa_model.specs.declared.draft.DefinitionKind.TheVariants as kind
use Rattle.psa_model.specs.declared.draft.EventKind.{EventKind}
use Rattle.psa_model.specs.declared.draft.EventKind.TheVariants as asked
use Rattle.psa_names.specs.Outlines.{ReferenceKind, event, Reference, Entry, Entries, entries_of}
use Rattle.psa_names.specs.PlacedFaults.{PlacedFault, fault_at, fault_of, earliest}
use Rattle.psa_names.specs.NameSpaces.{groups, is_in_family, all_named, repeats}
use Rattle.psa_names.specs.Meanings.{Meaning, definition, of_group, meaning_of}
use Rattle.psa_names.specs.GroupRules.{is_allowed_group}
use Rattle.psa_names.specs.Chains.{references_of, is_chained, leads, is_within_all}

-- ---- no name stands twice in a space

-- the definitions and states whose name stands before them in one of their spaces
abbrev pub duplicates : Entries → List PlacedFault
duplicates entries =
    map (λ one. fault_at fault.Duplicate one.position one.place one.name)
    (filter (λ one. list_any (repeats one) (all_named entries)) (all_named entries))

-- ---- each reference stands for something of its kind

-- whether an event of this kind is meant
abbrev pub is_event_kind : EventKind → DefinitionKind → Bool
is_event_kind asked.Any its = true
is_event_kind asked.Gate kind.Gate = true
is_event_kind asked.Basic kind.BasicEvent = true
is_event_kind asked.House kind.HouseEvent = true
is_event_kind _ _ = false

-- a definition is of the kind that a reference asks for
abbrev pub has_kind : ReferenceKind → DefinitionKind → Bool
has_kind (event asked) its = is_event_kind asked its
has_kind _ its = true

-- what a group defines is a basic event
abbrev pub means_kind : Entries → ReferenceKind → Meaning → Bool
means_kind entries its (definition place) = option_map_or (λ one. has_kind its one.kind) (slice_get entries place) false
means_kind entries its (of_group name) = has_kind its kind.BasicEvent

-- what is wrong with what a reference stands for, if anything is
abbrev pub reference_fault : Entries → ReferenceKind → Option Meaning → Option FaultKind
reference_fault entries its None = Some fault.Undefined
reference_fault entries its (Some meaning) = if means_kind entries its meaning then None else Some fault.WrongKind

-- the fault of a reference, where it has one, at its position
abbrev pub fault_of_reference : Entries → Entry → Reference → Option PlacedFault
fault_of_reference entries from reference =
    option_map
    (λ its. fault_at its (reference_position reference.written) reference.written.place reference.written.name)
    (reference_fault entries reference.kind (meaning_of entries from reference))

-- the faults of all references
abbrev pub bad_references : Entries → List PlacedFault
bad_references entries = flat_map (λ one. filter_map (fault_of_reference entries one) (references_of one)) entries

-- ---- each group is allowed behind the definitions before it

-- the groups that are not allowed
abbrev pub bad_groups : Entries → List PlacedFault
bad_groups entries =
    map (λ one. fault_of fault.BadGroup one.1)
    (filter (λ one. is_in_family groups one.1 && not (is_allowed_group entries (take one.0 entries) one.1))
    (enumerate_from 0 entries))

-- ---- no definition reaches itself: a chain of as many references as there are definitions is long enough

-- the definitions that reach themselves
abbrev pub cycles : Entries → List PlacedFault
cycles entries =
    map (λ one. fault_of fault.Cycle one.1)
    (filter (λ one. leads (length entries) entries one.0 one.0) (enumerate_from 0 entries))

-- ---- no definition is too deep

-- the definitions deeper than the limit
abbrev pub too_deep : Entries → List PlacedFault
too_deep entries =
    map (fault_of fault.TooDeep)
    (filter (λ one. is_chained one.kind && not (is_within_all MAX_DEPTH entries one)) entries)

-- ---- the first fault of names

-- a check goes through the whole model before the next begins
abbrev pub or_next : Option PlacedFault → (Unit {0} → Option PlacedFault) → Option PlacedFault
or_next (Some one) next = Some one
or_next None next = next tt

-- the earliest fault of the first check that has one
abbrev pub first_fault : Entries → Option ModelFault
first_fault entries =
    option_map (λ one. one.fault)
    (or_next (earliest (duplicates entries)) (λ u. or_next (earliest (bad_references entries))
    (λ u. or_next (earliest (bad_groups entries)) (λ u. or_next (earliest (cycles entries))
    (λ u. earliest (too_deep entries))))))

-- the first fault of names of a draft
abbrev pub name_fault : Draft → Option ModelFault
name_fault draft = first_fault (entries_of draft)
