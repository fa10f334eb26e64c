-- What the members of groups stand for, as it is kept. (This project's own.)
use Rattle.std.specs.Prelude.{◌≡◌, ◌==◌, Bool, true, false, List, [], ◌∷◌, ◌++◌, Option, Some, None, map, flat_map, length, nat_le, slice_get, ◌&&◌, not, if◌then◌else◌}
use Rattle.std.specs.List.{list_any, position_from}
use Rattle.std.specs.Str.{bytes_eq}
use Rattle.std.specs.Option.{option_map, option_map_or}
use Rattle.psa_model.specs.PathNames.{Text}
use Rattle.psa_model.specs.declared.draft.DraftGroup.{DraftGroup}
use Rattle.psa_model.specs.declared.draft.DraftReference.{DraftReference}
use Rattle.psa_model.specs.declared.limits.TheConstants.{MIN_MEMBERS, MAX_MEMBERS}
use Rattle.psa_names.specs.Found.{defined_by_groups}
use Rattle.psa_names.specs.GroupRules.{has_levels, has_no_expression, is_allowed_group, is_basic_event, meanings_of_members}
use Rattle.psa_names.specs.Meanings.{Meaning, definition, of_group, meaning_of_event}
use Rattle.psa_names.specs.NameSpaces.{groups, is_in_family}
use Rattle.psa_names.specs.Outlines.{Entry, Entries}
use Rattle.psa_names.specs.declared.found.Sense.{Sense}
use Rattle.psa_names.specs.declared.found.Sense.TheVariants.{Definition, OfGroup}
use Rattle.psa_lookup.specs.declared.members.MemberKey.{MemberKey}

-- what is kept of a meaning: of an event that groups define, its first number
abbrev pub sense_of : Entries → Option Meaning → Option Sense
sense_of entries None = None
sense_of entries (Some (definition place)) = Some (Definition place)
sense_of entries (Some (of_group name)) =
    option_map OfGroup (position_from (λ one. bytes_eq one name) 0 (defined_by_groups entries))

abbrev pub sense_of_key : MemberKey → Sense
sense_of_key key = if key.of_group then OfGroup key.number else Definition key.number

abbrev pub same_sense : Sense → Sense → Bool
same_sense (Definition one) (Definition other) = one == other
same_sense (OfGroup one) (OfGroup other) = one == other
same_sense _ _ = false

-- a basic event without an expression
abbrev pub can_belong : Entries → Sense → Bool
can_belong entries (OfGroup number) = true
can_belong entries (Definition place) =
    option_map_or (λ one. is_basic_event one.kind && has_no_expression one.body) (slice_get entries place) false

-- members may join those that stand: each can belong to a group, and does not stand yet
abbrev pub may_join : Entries → List Sense → List (Option Sense) → Bool
may_join entries standing [] = true
may_join entries standing (None ∷ others) = false
may_join entries standing (Some one ∷ others) =
    can_belong entries one && not (list_any (same_sense one) standing) && may_join entries (standing ++ one ∷ []) others

-- what members stand for inside a container
abbrev pub senses_of_members : Entries → List Text → List DraftReference → List (Option Sense)
senses_of_members entries container members =
    map (λ member. sense_of entries (meaning_of_event entries container member.name)) members

-- a group in a container may stand behind groups with these members
abbrev pub may_stand : Entries → List Sense → List Text → DraftGroup → Bool
may_stand entries standing container group =
    nat_le MIN_MEMBERS (length group.members) && nat_le (length group.members) MAX_MEMBERS
    && has_levels group.model (length group.members) group.factors
    && may_join entries standing (senses_of_members entries container group.members)

-- a group that is not allowed behind these definitions
abbrev pub is_bad_group : Entries → Entries → Entry → Bool
is_bad_group entries before one = is_in_family groups one && not (is_allowed_group entries before one)

-- these are the members of some definitions
abbrev pub AreMembersOf : Entries → Entries → List Sense → Type 0
AreMembersOf entries definitions members =
    map Some members ≡ map (sense_of entries) (flat_map (meanings_of_members entries) definitions)
