-- The model has no more basic events and members than the draft has basic events and members; what a group defines counts
-- as a member alone.
use Rattle.std.proofs.Common.{◌≡◌, ◌⊎◌, inl, inr, ◌≤◌, ◌+◌, ◌==◌, ℕ, Bool, true, false, cond, List, [], ◌∷◌, Option, Some, None, map, length, ◌&&◌, refl, sym, ap, ◌∙◌, subst, arith}
use Rattle.std.proofs.lemmas.Bool.{and_from, eq-eqb, cases_Bool, cases_order}
use Rattle.std.proofs.lemmas.List.{length-map}
use Rattle.std.proofs.lemmas.Option.{same_Some}
use Rattle.std.specs.Prelude.{if◌then◌else◌}
use Rattle.std.specs.List.{slice_get, filter, filter_map, cons_option}
use Rattle.std.specs.Option.{option_map}
use Rattle.psa_model.specs.PathNames.{Text}
use Rattle.psa_model.specs.declared.draft.DefinitionKind.TheVariants as kind
use Rattle.psa_model.specs.declared.draft.DraftBody.{DraftBody}
use Rattle.psa_model.specs.declared.draft.DraftBody.TheVariants as body
use Rattle.psa_model.specs.declared.draft.DraftReference.{DraftReference}
use Rattle.psa_model.specs.declared.ids.EventId.{EventId}
use Rattle.psa_model.specs.declared.model.BasicEvent.{BasicEvent}
use Rattle.psa_model.specs.declared.model.Group.{Group}
use Rattle.psa_model.specs.declared.ids.Place.{Place}
use Rattle.psa_model.specs.Drafts.{member_count}
use Rattle.psa_model.specs.Models.{is_at, defined_by, defined_members}
use Rattle.psa_model.specs.Models.{members_of as model_members}
use Rattle.psa_names.specs.Outlines.{Entry, Entries}
use Rattle.psa_names.specs.Meanings.{Meaning, of_group, members_of, defined_by_group, meaning_of_event}
use Rattle.psa_names.specs.GroupRules.{meanings_of_members}
use Rattle.psa_names.specs.Ids.{is_kind, all_of_kind, basic_id}
use Rattle.psa_names.specs.ModelOfDraft.{model_from, basics_of, group_of}
use Rattle.psa_names.proofs.ListPlaces.{Has, has-first, has-later, has-map, has-kept}
use Rattle.psa_checks.proofs.KindForms.{group-body}
use Rattle.psa_checks.proofs.Definitions.{AreEntries}
use Rattle.psa_checks.proofs.BasicEvents.{IsOwn, IsOfGroup, group_basic, pair-cases, basic-pair-at, group-pair}
use Rattle.psa_names.proofs.Sums.{weigh, sum-weigh}
use Rattle.psa_checks.proofs.GroupMembers.{present, member_list}
use Rattle.psa_checks.proofs.MembersDiffer.{all_members, group-at, groups-apart}
use Rattle.psa_checks.proofs.ModelMembers.{absent, absent-meaning, defined-member, group-says, model-members}
use Rattle.psa_checks.proofs.PromisedDefinitions.{its-body}
use Rattle.psa_names.proofs.Sums.{one_if, weigh-map, weigh-less, weigh-sum, length-flat, kept-weigh}
use Rattle.psa_checks.proofs.KindCounts.{of_number}

-- ---- basic events

-- the basic events are definitions, and what groups define
pub basics-few : (entries : Entries)
    → length (model_from entries).basics ≤ of_number 2 entries + weigh
    (λ (e : Entry). cond (is_kind kind.Group e) (length (defined_by_group entries e)) 0) entries
basics-few entries =
    let count = length-flat (basics_of entries) entries in
    let parts = weigh-sum (λ (e : Entry). one_if (is_kind kind.BasicEvent e))
    (λ (e : Entry). cond (is_kind kind.Group e) (length (defined_by_group entries e)) 0) entries in
    let less = weigh-less (λ (e : Entry). length (basics_of entries e))
    (λ (e : Entry). one_if (is_kind kind.BasicEvent e) + cond (is_kind kind.Group e)
    (length (defined_by_group entries e)) 0) entries (λ e here. each e) in
    omega (arith, count, parts, less)
  where
    by_kind : {A : Type 0} (b c : Bool) (x : A) (f : Text → A) (names : List Text)
        → length (if b then x ∷ [] else if c then map f names else []) ≤ one_if b + cond c (length names) 0
    by_kind true c x f names = omega arith
    by_kind false true x f names = let same = length-map names f in omega (arith, same)
    by_kind false false x f names = omega arith

    each : (e : Entry) → length (basics_of entries e) ≤ one_if (is_kind kind.BasicEvent e) + cond
        (is_kind kind.Group e) (length (defined_by_group entries e)) 0
    each e = by_kind (is_kind kind.BasicEvent e) (is_kind kind.Group e) _ _ (defined_by_group entries e)

-- an event that a group defines stands in the model with the group's place
defined-at : (entries : Entries) → AreEntries entries → (place : ℕ) (group : Entry) (name : Text)
    → slice_get entries place ≡ Some group → group.kind ≡ kind.Group → Has (defined_by_group entries group) name
    → is_at group.place (slice_get (model_from entries).basics (basic_id entries (of_group name))) ≡ true
defined-at entries are place group name there is defined =
    let b = basic-pair-at entries (of_group name) (group_basic group name)
    (group-pair entries place group name there is defined) in
    ap (is_at group.place) b.1 ∙ by_pair (pair-cases entries (of_group name, b.0) b.2)
  where
    at_own : (event : BasicEvent) → event.place ≡ group.place → is_at group.place (Some event) ≡ true
    at_own event same = ap (λ (p : Place). p.file == group.place.file && p.line == group.place.line) same
        ∙ and_from _ _ (eq-eqb group.place.file group.place.file refl) (eq-eqb group.place.line group.place.line refl)

    by_pair : {event : BasicEvent} → IsOwn entries (of_group name, event) ⊎ IsOfGroup entries (of_group name, event)
        → is_at group.place (Some event) ≡ true
    by_pair {event} (inl own) = let k = ap (λ (p : Meaning × BasicEvent). p.0) own.pair_is in absurd (cc)
    by_pair {event} (inr of) =
        let meaning = ap (λ (p : Meaning × BasicEvent). p.0) of.pair_is in
        let same_name : name ≡ of.name = cc in
        let here = defined-member entries place group name there defined in
        let other = defined-member entries of.place of.one of.name of.there of.defined in
        let number : place ≡ of.place = elim (cases_order place of.place) [
          | inl same ↦ same
          | inr (inl less) ↦ absurd (groups-apart entries are place of.place group of.one less there of.there of.is
              (of_group name) (of_group of.name) here other meaning)
          | inr (inr more) ↦ absurd (groups-apart entries are of.place place of.one group more of.there there is
              (of_group of.name) (of_group name) other here (sym meaning))
        ] in
        let same : of.one ≡ group = same_Some of.one group
        (sym of.there ∙ ap (slice_get entries) (sym number) ∙ there) in
        at_own event (ap (λ (p : Meaning × BasicEvent). p.1.place) of.pair_is ∙ ap (λ (e : Entry). e.place) same)

-- the members that a group defines are among those that have its place
members-at : (entries : Entries) (group : Entry) (at : EventId → Bool) (members : List DraftReference)
    → ((m : DraftReference) → Has members m → absent entries group m ≡ true
    → (meaning_of_event entries group.container m.name ≡ Some (of_group m.name))
    × (at (record { 0 = basic_id entries (of_group m.name) }) ≡ true))
    → length (filter (absent entries group) members) ≤ length
    (filter at (map (λ id. record { 0 = id })
    (filter_map (λ m. option_map (basic_id entries) (meaning_of_event entries group.container m.name)) members)))
members-at entries group at [] means = omega arith
members-at entries group at (m ∷ members) means =
    let rest = members-at entries group at members (λ x later. means x (has-later m x members later)) in
    elim (cases_Bool (absent entries group m)) [
      | inl gone ↦
          let own = means m (has-first m members) gone in
          rw gone (rw own.0 (rw own.1 (omega (arith, rest))))
      | inr found ↦ rw found (by_meaning (meaning_of_event entries group.container m.name) rest)
    ]
  where
    by_test : (b : Bool) (id : EventId) (n : ℕ) (ids : List EventId) → n ≤ length ids
        → n ≤ length (cond b (id ∷ ids) ids)
    by_test true id n ids less = omega (arith, less)
    by_test false id n ids less = less

    by_meaning : (o : Option Meaning) → length (filter (absent entries group) members) ≤ length
        (filter at (map (λ id. record { 0 = id })
        (filter_map (λ x. option_map (basic_id entries) (meaning_of_event entries group.container x.name)) members)))
        → length (filter (absent entries group) members) ≤ length
        (filter at (map (λ id. record { 0 = id })
        (cons_option (option_map (basic_id entries) o)
        (filter_map (λ x. option_map (basic_id entries) (meaning_of_event entries group.container x.name)) members))))
    by_meaning None less = less
    by_meaning (Some x) less = by_test (at (record { 0 = basic_id entries x })) _ _ _ less

group-defines : (entries : Entries) → AreEntries entries → (place : ℕ) (group : Entry)
    → slice_get entries place ≡ Some group → group.kind ≡ kind.Group
    → length (defined_by_group entries group) ≤ defined_by (model_from entries) (group_of entries group)
group-defines entries are place group there is =
    let b = group-body group.body (its-body entries place group kind.Group are there is) in
    let says = group-says entries group (body.Group b.0) b.1 in
    let count = length-map (filter (absent entries group) (members_of group.body)) (λ (m : DraftReference). m.name) in
    let less = members-at entries group (λ id. is_at group.place (slice_get (model_from entries).basics id.0))
    (members_of group.body) (λ m here gone. (
      absent-meaning entries place group m there here gone,
      defined-at entries are place group m.name there is
          (has-map (λ (x : DraftReference). x.name) (filter (absent entries group) (members_of group.body)) m
          (has-kept (absent entries group) (members_of group.body) m here gone)),
    )) in
    subst (λ (g : Group). length (defined_by_group entries group) ≤ defined_by (model_from entries) g) (sym says)
    (omega (arith, count, less))

-- what groups define is among the members that their groups define
pub defined-many : (entries : Entries) → AreEntries entries
    → weigh (λ (e : Entry). cond (is_kind kind.Group e) (length (defined_by_group entries e)) 0)
    entries ≤ defined_members (model_from entries)
defined-many entries are =
    let all = all_of_kind kind.Group entries in
    let count = sum-weigh (defined_by (model_from entries)) (map (λ (one : ℕ × Entry). group_of entries one.1) all) in
    let made = weigh-map (defined_by (model_from entries)) (λ (one : ℕ × Entry). group_of entries one.1) all in
    let kept = kept-weigh (λ (e : Entry). length (defined_by_group entries e)) (is_kind kind.Group) 0 entries in
    let less = weigh-less (λ (one : ℕ × Entry). length (defined_by_group entries one.1))
    (λ (one : ℕ × Entry). defined_by (model_from entries) (group_of entries one.1)) all
    (λ one here. (let g = group-at entries one here in group-defines entries are one.0 one.1 g.0 g.1)) in
    omega (arith, count, made, kept, less)

-- ---- members

present-few : {A : Type 0} (os : List (Option A)) → length (present os) ≤ length os
present-few [] = omega arith
present-few (None ∷ others) = let rest = present-few others in omega (arith, rest)
present-few (Some x ∷ others) = let rest = present-few others in omega (arith, rest)

body-members : (its : DraftBody) → length (members_of its) ≡ member_count its
body-members (body.Group group) = refl
body-members body.Nothing = refl
body-members (body.Formula f) = refl
body-members (body.Value v) = refl
body-members (body.State s) = refl
body-members (body.Start t) = refl
body-members (body.Steps i l) = refl
body-members (body.Walk w) = refl

-- the model has no more members than the draft
pub members-few : (entries : Entries)
    → length (model_members (model_from entries)) ≤ weigh (λ (e : Entry). member_count e.body) entries
members-few entries =
    let all = all_of_kind kind.Group entries in
    let same = ap length (model-members entries) ∙ length-map (all_members entries) (basic_id entries)
    ∙ length-flat (λ (one : ℕ × Entry). member_list entries one.1) all in
    let kept = kept-weigh (λ (e : Entry). length (member_list entries e)) (is_kind kind.Group) 0 entries in
    let less = weigh-less (λ (e : Entry). cond (is_kind kind.Group e) (length (member_list entries e)) 0)
    (λ (e : Entry). member_count e.body) entries (λ e here. each e (is_kind kind.Group e)) in
    omega (arith, same, kept, less)
  where
    each : (e : Entry) (b : Bool) → cond b (length (member_list entries e)) 0 ≤ member_count e.body
    each e true =
        let few = present-few (meanings_of_members entries e) in
        let made = length-map (members_of e.body)
        (λ (m : DraftReference). meaning_of_event entries e.container m.name) in
        let count = body-members e.body in
        omega (arith, few, made, count)
    each e false = omega arith
