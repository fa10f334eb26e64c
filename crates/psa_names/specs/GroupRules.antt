-- What a common cause group may be. (The models are those of the Open-PSA Model Exchange Format 2.0d; the numbers of
-- members and the levels are this project's own.)
use Rattle.std.specs.Prelude.{◌==◌, ℕ, Bool, true, false, List, [], ◌∷◌, Option, Some, None, map, length, nat_le, count_by, slice_get, ◌&&◌, ◌||◌, not}
use Rattle.std.specs.List.{list_all, list_any}
use Rattle.std.specs.Option.{option_map_or, unwrap_or}
use Rattle.std.specs.Str.{bytes_eq}
use Rattle.psa_model.specs.Models.{levels_of}
use Rattle.psa_model.specs.declared.model.GroupModel.{GroupModel}
use Rattle.psa_model.specs.declared.model.GroupModel.TheVariants.{Beta}
use Rattle.psa_model.specs.declared.draft.DefinitionKind.{DefinitionKind}
use Rattle.psa_model.specs.declared.draft.DefinitionKind.TheVariants as kind
use Rattle.psa_model.specs.declared.draft.DraftBody.{DraftBody}
use Rattle.psa_model.specs.declared.draft.DraftBody.TheVariants as body
use Rattle.psa_model.specs.declared.draft.DraftFactor.{DraftFactor}
use Rattle.psa_model.specs.declared.limits.TheConstants.{MIN_MEMBERS, MAX_MEMBERS}
use Rattle.psa_names.specs.Outlines.{Entry, Entries}
use Rattle.psa_names.specs.Meanings.{Meaning, definition, of_group, members_of, meaning_of_event}

-- ---- members

-- two references stand for the same definition
abbrev pub same_meaning : Option Meaning → Option Meaning → Bool
same_meaning (Some (definition one)) (Some (definition other)) = one == other
same_meaning (Some (of_group one)) (Some (of_group other)) = bytes_eq one other
same_meaning _ _ = false

-- what the members of a group stand for; a member is compared by that, not by its spelling
abbrev pub meanings_of_members : Entries → Entry → List (Option Meaning)
meanings_of_members entries group =
    map (λ member. meaning_of_event entries group.container member.name) (members_of group.body)

-- two of these stand for the same
abbrev pub has_repeat : List (Option Meaning) → Bool
has_repeat [] = false
has_repeat (one ∷ others) = list_any (same_meaning one) others || has_repeat others

-- the body of a basic event without an expression
abbrev pub has_no_expression : DraftBody → Bool
has_no_expression (body.Value None) = true
has_no_expression _ = false

-- a definition of a basic event
abbrev pub is_basic_event : DefinitionKind → Bool
is_basic_event kind.BasicEvent = true
is_basic_event _ = false

-- a member is a basic event without an expression
abbrev pub can_be_member : Entries → Option Meaning → Bool
can_be_member entries None = false
can_be_member entries (Some (of_group name)) = true
can_be_member entries (Some (definition place)) =
    option_map_or (λ one. is_basic_event one.kind && has_no_expression one.body) (slice_get entries place) false

-- two groups share a member
abbrev pub have_one_in_common : List (Option Meaning) → List (Option Meaning) → Bool
have_one_in_common ones others = list_any (λ one. list_any (same_meaning one) others) ones

-- ---- levels

-- the level of a factor; in a group of the model beta-factor it may be left out, and is then the number of members
abbrev pub level_in : GroupModel → ℕ → DraftFactor → Option ℕ
level_in Beta members factor = Some (unwrap_or factor.level members)
level_in _ members factor = factor.level

-- a factor has this level
abbrev pub has_level : GroupModel → ℕ → ℕ → DraftFactor → Bool
has_level model members level factor = option_map_or (λ its. its == level) (level_in model members factor) false

-- each level of the model has one factor, and there is no other factor
abbrev pub has_levels : GroupModel → ℕ → List DraftFactor → Bool
has_levels model members factors =
    (length factors == length (levels_of model members))
    && list_all (λ level. count_by (has_level model members level) factors == 1) (levels_of model members)

-- the factors of a group have exactly the levels of its model
abbrev pub body_has_levels : DraftBody → Bool
body_has_levels (body.Group group) = has_levels group.model (length group.members) group.factors
body_has_levels _ = true

-- ---- groups

-- a group that may stand behind these definitions
abbrev pub is_allowed_group : Entries → List Entry → Entry → Bool
is_allowed_group entries before group =
    nat_le MIN_MEMBERS (length members) && nat_le (length members) MAX_MEMBERS
    && not (has_repeat members)
    && list_all (can_be_member entries) members
    && not (list_any (λ other. have_one_in_common members (meanings_of_members entries other)) before)
    && body_has_levels group.body
  where
    members : List (Option Meaning)
    members = meanings_of_members entries group
