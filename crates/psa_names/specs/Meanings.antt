-- What a name stands for. (The rule of the search is this project's own.)
use Rattle.std.specs.Prelude.{ℕ, Bool, List, [], ◌∷◌, ◌++◌, Option, Some, None, map, is_some, filter, position, take, length, ◌-◌, ◌&&◌, not, if◌then◌else◌}
use Rattle.std.specs.List.{list_any, last_or}
use Rattle.std.specs.Option.{option_map, option_or, unwrap_or}
use Rattle.std.specs.Str.{bytes_eq}
use Rattle.psa_model.specs.Drafts.{same_texts}
use Rattle.psa_model.specs.PathNames.{Text, name_parts, is_path}
use Rattle.psa_model.specs.declared.draft.DraftBody.{DraftBody}
use Rattle.psa_model.specs.declared.draft.DraftBody.TheVariants as body
use Rattle.psa_model.specs.declared.draft.DraftReference.{DraftReference}
use Rattle.psa_names.specs.Outlines.{ReferenceKind, event, parameter, event_tree, rule, sequence, branch, functional_event, initiating_event, functional_event_anywhere, Reference, Entry, Entries}
use Rattle.psa_names.specs.NameSpaces.{Family, events, parameters, event_trees, initiating_events, functional_events, sequences, branches, rules, family_of, is_in_family, is_inner}

-- ---- the search among definitions

-- an entry has this name
abbrev pub has_name : Text → Entry → Bool
has_name name one = bytes_eq one.name name

-- by its place in the draft: the definition of a family with this name in the whole model
abbrev pub in_whole_model : Entries → Family → Text → Option ℕ
in_whole_model entries family name = position (λ one. is_in_family family one && has_name name one) entries

-- the public one
abbrev pub public_one : Entries → Family → Text → Option ℕ
public_one entries family name =
    position (λ one. is_in_family family one && not one.private && has_name name one) entries

-- the one directly in a container or event tree
abbrev pub one_directly_in : Entries → Family → List Text → Text → Option ℕ
one_directly_in entries family around name =
    position (λ one. is_in_family family one && same_texts one.container around && has_name name one) entries

-- a container and those around it, the innermost first
abbrev pub outwards : List Text → List (List Text)
outwards [] = []
outwards (name ∷ names) = map (λ inner. name ∷ inner) (outwards names) ++ (name ∷ []) ∷ []

-- the first that there is
abbrev pub first_some : {A : Type 0} → List (Option A) → Option A
first_some [] = None
first_some (one ∷ others) = option_or one (first_some others)

-- A path stands for the definition directly in the container of the parts before the last.
abbrev pub by_path : Entries → Family → List Text → Option ℕ
by_path entries family parts =
    one_directly_in entries family (take (length parts - 1) parts) (unwrap_or (last_or None parts) [])

-- A name without a dot stands for the definition directly in the innermost container that has one, else for the public
-- one.
abbrev pub by_scope : Entries → Family → List Text → Text → Option ℕ
by_scope entries family container name =
    option_or (first_some (map (λ around. one_directly_in entries family around name) (outwards container)))
    (public_one entries family name)

-- the definition that a name or path stands for inside a container
abbrev pub definition_named : Entries → Family → List Text → Text → Option ℕ
definition_named entries family container name =
    if is_path name then by_path entries family (name_parts name) else by_scope entries family container name

-- ---- events that groups define

-- what a name stands for: a definition, by its place in the draft, or the basic event of this name that a group defines
pub data Meaning : Type 0 where
  definition : ℕ → Meaning
  of_group : Text → Meaning

-- the members of a group's body
abbrev pub members_of : DraftBody → List DraftReference
members_of (body.Group group) = group.members
members_of _ = []

-- The names of the basic events that a group defines: its plain members for which the search among definitions finds
-- nothing. Such an event is public and stands directly in no container.
abbrev pub defined_by_group : Entries → Entry → List Text
defined_by_group entries group =
    map (λ member. member.name) (filter (λ member. is_absent member.name) (members_of group.body))
  where
    is_absent : Text → Bool
    is_absent name = not (is_path name) && not (is_some (definition_named entries events group.container name))

-- some group defines a basic event of this name
abbrev pub is_defined_by_group : Entries → Text → Bool
is_defined_by_group entries name = list_any (λ group. list_any (bytes_eq name) (defined_by_group entries group)) entries

-- what the name of an event stands for: a definition, or what a group defines
abbrev pub meaning_of_event : Entries → List Text → Text → Option Meaning
meaning_of_event entries container name =
    option_or (option_map definition (definition_named entries events container name))
    (if not (is_path name) && is_defined_by_group entries name then Some (of_group name) else None)

-- ---- references

-- The container in which the search for a definition's references begins. What stands in an event tree has none: a
-- fault tree of the same name is not meant. Components are inner too, and hold no references.
abbrev pub scope_of : Entry → List Text
scope_of one = if is_inner (family_of one.kind) then [] else one.container

-- the event tree that a definition is, or stands in
abbrev pub tree_of : Entry → List Text
tree_of one = if is_in_family event_trees one then one.name ∷ [] else one.container

-- what a reference in a definition stands for
abbrev pub meaning_of : Entries → Entry → Reference → Option Meaning
meaning_of entries from reference = by_kind reference.kind
  where
    in_model : Family → Option Meaning
    in_model family = option_map definition (in_whole_model entries family reference.written.name)

    in_tree : Family → Option Meaning
    in_tree family = option_map definition (one_directly_in entries family (tree_of from) reference.written.name)

    by_kind : ReferenceKind → Option Meaning
    by_kind (event kind) = meaning_of_event entries (scope_of from) reference.written.name
    by_kind parameter =
        option_map definition (definition_named entries parameters (scope_of from) reference.written.name)
    by_kind event_tree = in_model event_trees
    by_kind rule = in_model rules
    by_kind initiating_event = in_model initiating_events
    by_kind functional_event_anywhere = in_model functional_events
    by_kind sequence = in_tree sequences
    by_kind branch = in_tree branches
    by_kind functional_event = in_tree functional_events
