-- The members of the groups of a model, and what a group defines is a member of it.
use Rattle.std.proofs.Common.{◌≡◌, inl, inr, ◌==◌, ℕ, Bool, true, false, not, List, [], ◌∷◌, Option, Some, None, map, length, ◌&&◌, refl, sym, ap, ◌∙◌, subst}
use Rattle.std.proofs.lemmas.Bool.{false≢true, and_parts, and_from, or_parts, not-true, cases_Bool, both_ways}
use Rattle.std.proofs.lemmas.List.{map-id}
use Rattle.std.specs.Prelude.{is_some}
use Rattle.std.specs.List.{slice_get, list_any, filter, filter_map}
use Rattle.std.specs.Option.{option_map}
use Rattle.std.specs.Str.{bytes_eq}
use Rattle.psa_model.specs.PathNames.{Text, is_path}
use Rattle.psa_model.specs.declared.draft.DefinitionKind.TheVariants as kind
use Rattle.psa_model.specs.declared.draft.DraftBody.{DraftBody}
use Rattle.psa_model.specs.declared.draft.DraftBody.TheVariants as body
use Rattle.psa_model.specs.declared.draft.DraftReference.{DraftReference}
use Rattle.psa_model.specs.declared.expression.Expression.TheVariants as expression
use Rattle.psa_model.specs.declared.ids.EventId.{EventId}
use Rattle.psa_model.specs.declared.model.Group.{Group}
use Rattle.psa_model.specs.declared.model.GroupModel.TheVariants.{Beta}
use Rattle.psa_model.specs.Models.{members_of as model_members}
use Rattle.psa_names.specs.Outlines.{Entry, Entries}
use Rattle.psa_names.specs.NameSpaces.{events}
use Rattle.psa_names.specs.Meanings.{Meaning, of_group, members_of, defined_by_group, definition_named, is_defined_by_group, meaning_of_event}
use Rattle.psa_names.specs.GroupRules.{same_meaning, meanings_of_members, has_repeat}
use Rattle.psa_names.specs.Ids.{all_of_kind, basic_id}
use Rattle.psa_names.specs.Resolved.{resolved_expression}
use Rattle.psa_names.specs.ModelOfDraft.{model_from, member_ids, factor_of, by_level, group_of, is_member}
use Rattle.psa_names.proofs.ListPlaces.{Has, has-first, has-later, has-map, from-map, has-kept, from-kept, has-any, map-map}
use Rattle.psa_checks.proofs.BasicEvents.{map-flat, flat-same, same-own, text-own}
use Rattle.psa_checks.proofs.GroupMembers.{present-has, member_list, member-ids}
use Rattle.psa_checks.proofs.MembersDiffer.{AreDistinct, all_members}
use Rattle.psa_checks.proofs.JoinedLists.{any-flat, flat-of-map}

-- ---- the members of the model

-- what a definition with a body is as a group
abbrev pub group_by : Entries → Entry → DraftBody → Group
group_by entries one (body.Group group) = record {
  name = one.name;
  place = one.place;
  model = group.model;
  members = map (λ id. record { 0 = id }) (member_ids entries one);
  distribution = resolved_expression entries one group.distribution;
  factors = by_level (map (factor_of entries one (length group.members)) group.factors);
}
group_by entries one _ = record {
  name = one.name;
  place = one.place;
  model = Beta;
  members = [];
  distribution = expression.MissionTime;
  factors = [];
}

-- a group, by its body
pub group-says : (entries : Entries) (one : Entry) (its : DraftBody) → one.body ≡ its
    → group_of entries one ≡ group_by entries one its
group-says entries one its is = ap (group_by entries one) is

own-ids : (ids : List ℕ) → map (λ (id : EventId). id.0) (map (λ id. record { 0 = id }) ids) ≡ ids
own-ids ids = map-map (λ (id : EventId). id.0) (λ id. record { 0 = id }) ids ∙ map-id ids

no-members : (entries : Entries) (one : Entry) (its : DraftBody) → one.body ≡ its → members_of its ≡ []
    → member_ids entries one ≡ []
no-members entries one its is none = ap (λ (ms : List DraftReference). filter_map
    (λ member. option_map (basic_id entries) (meaning_of_event entries one.container member.name)) ms)
    (ap members_of is ∙ none)

group-ids : (entries : Entries) (one : Entry) (its : DraftBody) → one.body ≡ its
    → map (λ (id : EventId). id.0) (group_by entries one its).members ≡ member_ids entries one
group-ids entries one (body.Group group) is = own-ids (member_ids entries one)
group-ids entries one body.Nothing is = sym (no-members entries one body.Nothing is refl)
group-ids entries one (body.Formula f) is = sym (no-members entries one (body.Formula f) is refl)
group-ids entries one (body.Value v) is = sym (no-members entries one (body.Value v) is refl)
group-ids entries one (body.State s) is = sym (no-members entries one (body.State s) is refl)
group-ids entries one (body.Start t) is = sym (no-members entries one (body.Start t) is refl)
group-ids entries one (body.Steps i l) is = sym (no-members entries one (body.Steps i l) is refl)
group-ids entries one (body.Walk w) is = sym (no-members entries one (body.Walk w) is refl)

-- the members of all groups of the model, by what they stand for
pub model-members : (entries : Entries)
    → model_members (model_from entries) ≡ map (basic_id entries) (all_members entries)
model-members entries =
    flat-of-map (λ (g : Group). map (λ (id : EventId). id.0) g.members) (λ (one : ℕ × Entry). group_of entries one.1)
    (all_of_kind kind.Group entries)
    ∙ flat-same _ (λ (one : ℕ × Entry). map (basic_id entries) (member_list entries one.1))
    (λ (one : ℕ × Entry). group-ids entries one.1 one.1.body refl ∙ member-ids entries one.1)
    (all_of_kind kind.Group entries)
    ∙ sym (map-flat (basic_id entries) (λ (one : ℕ × Entry). member_list entries one.1)
    (all_of_kind kind.Group entries))

-- the test of members is that of the members of the model
pub is-member : (entries : Entries) (id : ℕ)
    → is_member entries id ≡ list_any (λ m. m == id) (model_members (model_from entries))
is-member entries id =
    sym (any-flat (λ m. m == id) (λ (one : ℕ × Entry). member_ids entries one.1) (all_of_kind kind.Group entries))
    ∙ ap (list_any (λ m. m == id)) (flat-same (λ (one : ℕ × Entry). member_ids entries one.1)
    (λ (one : ℕ × Entry). map (basic_id entries) (member_list entries one.1))
    (λ (one : ℕ × Entry). member-ids entries one.1) (all_of_kind kind.Group entries)
    ∙ sym (map-flat (basic_id entries) (λ (one : ℕ × Entry). member_list entries one.1)
    (all_of_kind kind.Group entries))
    ∙ sym (model-members entries))

-- ---- what a group defines is a member of it

-- a plain member that names no definition
abbrev pub absent : Entries → Entry → DraftReference → Bool
absent entries group member = not (is_path member.name) && not
    (is_some (definition_named entries events group.container member.name))

none-named : (o : Option ℕ) → is_some o ≡ false → o ≡ None
none-named None h = refl
none-named (Some x) h = absurd (false≢true (sym h))

-- a plain member that names no definition stands for the event that the group defines
pub absent-meaning : (entries : Entries) (place : ℕ) (group : Entry) (member : DraftReference)
    → slice_get entries place ≡ Some group → Has (members_of group.body) member → absent entries group member ≡ true
    → meaning_of_event entries group.container member.name ≡ Some (of_group member.name)
absent-meaning entries place group member there here h =
    let parts = and_parts (not (is_path member.name))
    (not (is_some (definition_named entries events group.container member.name))) h in
    let none = none-named (definition_named entries events group.container member.name) (not-true _ parts.1) in
    let defined = has-map (λ (m : DraftReference). m.name) (filter (absent entries group) (members_of group.body))
    member (has-kept (absent entries group) (members_of group.body) member here h) in
    let is_defined : is_defined_by_group entries member.name ≡ true =
    has-any (λ g. list_any (bytes_eq member.name) (defined_by_group entries g)) entries group (place, there)
    (has-any (bytes_eq member.name) (defined_by_group entries group) member.name defined
    (text-own member.name)) in
    rw none (rw (and_from _ _ parts.0 is_defined) refl)

-- an event that a group defines is among what its members stand for
pub defined-member : (entries : Entries) (place : ℕ) (group : Entry) (name : Text)
    → slice_get entries place ≡ Some group → Has (defined_by_group entries group) name
    → Has (member_list entries group) (of_group name)
defined-member entries place group name there here =
    let r = from-map (λ (m : DraftReference). m.name) (filter (absent entries group) (members_of group.body))
    name here in
    let k = from-kept (absent entries group) (members_of group.body) r.0 r.1 in
    let meaning = absent-meaning entries place group r.0 there k.0 k.1 in
    let listed = has-map (λ (m : DraftReference). meaning_of_event entries group.container m.name)
    (members_of group.body) r.0 k.0 in
    present-has (meanings_of_members entries group) (of_group name)
    (subst (λ (o : Option Meaning). Has (meanings_of_members entries group) o)
    (meaning ∙ ap (λ (n : Text). Some (of_group n)) r.2) listed)

-- a group defines no event twice
pub defined-distinct : (entries : Entries) (group : Entry) (members : List DraftReference)
    → ((m : DraftReference) → Has members m → absent entries group m ≡ true
    → meaning_of_event entries group.container m.name ≡ Some (of_group m.name))
    → has_repeat (map (λ (m : DraftReference). meaning_of_event entries group.container m.name) members) ≡ false
    → AreDistinct (map of_group (map (λ (m : DraftReference). m.name) (filter (absent entries group) members)))
defined-distinct entries group [] means h = tt
defined-distinct entries group (m ∷ members) means h =
    let parts = or_parts (list_any (same_meaning (meaning_of_event entries group.container m.name))
    (map (λ (x : DraftReference). meaning_of_event entries group.container x.name) members)) _ h in
    let rest = defined-distinct entries group members (λ x later. means x (has-later m x members later)) parts.1 in
    elim (cases_Bool (absent entries group m)) [
      | inr fails ↦ rw fails rest
      | inl passes ↦
          let own = means m (has-first m members) passes in
          rw passes (
            (λ y here same. (
                let a = from-map of_group (map (λ (x : DraftReference). x.name)
                (filter (absent entries group) members)) y here in
                let b = from-map (λ (x : DraftReference). x.name) (filter (absent entries group) members) a.0 a.1 in
                let k = from-kept (absent entries group) members b.0 b.1 in
                let its = means b.0 (has-later m b.0 members k.0) k.1 in
                let equal : meaning_of_event entries group.container m.name
                ≡ meaning_of_event entries group.container b.0.name = own
                ∙ ap Some (same ∙ sym a.2 ∙ ap of_group (sym b.2)) ∙ sym its in
                let same_one : same_meaning (meaning_of_event entries group.container m.name)
                (meaning_of_event entries group.container b.0.name) ≡ true =
                ap (λ (o : Option Meaning). same_meaning (meaning_of_event entries group.container m.name) o)
                (sym equal) ∙ ap (λ (o : Option Meaning). same_meaning o o) own ∙ same-own (of_group m.name) in
                both_ways _ parts.0 (has-any (same_meaning (meaning_of_event entries group.container m.name))
                (map (λ (x : DraftReference). meaning_of_event entries group.container x.name) members) _
                (has-map (λ (x : DraftReference). meaning_of_event entries group.container x.name)
                members b.0 k.0) same_one))),
            rest,
          )
    ]
