-- What the members of groups stand for: basic events of the model without an expression.
use Rattle.std.proofs.Common.{◌≡◌, ◌⊎◌, inl, inr, ℕ, suc, true, false, List, [], ◌∷◌, Option, Some, None, map, length, ◌&&◌, refl, sym, ap, ◌∙◌}
use Rattle.std.proofs.lemmas.Bool.{false≢true, and_parts}
use Rattle.std.proofs.lemmas.Option.{same_Some, none-some}
use Rattle.std.specs.List.{slice_get, list_all, filter_map, cons_option}
use Rattle.std.specs.Option.{option_map, option_map_or}
use Rattle.psa_model.specs.declared.draft.DefinitionKind.{DefinitionKind}
use Rattle.psa_model.specs.declared.draft.DefinitionKind.TheVariants as kind
use Rattle.psa_model.specs.declared.draft.DraftBody.{DraftBody}
use Rattle.psa_model.specs.declared.draft.DraftBody.TheVariants as body
use Rattle.psa_model.specs.declared.draft.DraftReference.{DraftReference}
use Rattle.psa_model.specs.declared.model.BasicEvent.{BasicEvent}
use Rattle.psa_names.specs.Outlines.{Entry, Entries}
use Rattle.psa_names.specs.Meanings.{Meaning, definition, of_group, members_of, meaning_of_event}
use Rattle.psa_names.specs.GroupRules.{meanings_of_members, has_no_expression, is_basic_event, can_be_member}
use Rattle.psa_names.specs.Ids.{basic_id}
use Rattle.psa_names.specs.ModelOfDraft.{model_from, member_ids}
use Rattle.psa_names.proofs.ListPlaces.{Has, has-none, has-later, has-cases, from-map, all-at}
use Rattle.psa_checks.proofs.Definitions.{AreEntries}
use Rattle.psa_checks.proofs.ReferencesStand.{IsEvent, event-at}
use Rattle.psa_checks.proofs.BasicEvents.{own_basic, group_basic, all_pairs, IsOwn, IsOfGroup, pair-cases, own-pair, basic-pair-at, defined-pair}
use Rattle.psa_checks.proofs.ExpressionLevels.{expression_by}

-- ---- what members stand for

-- those that stand for something
abbrev pub present : {A : Type 0} → List (Option A) → List A
present [] = []
present (None ∷ others) = present others
present (Some x ∷ others) = x ∷ present others

-- what stands among those that stand for something
pub has-present : {A : Type 0} (os : List (Option A)) (x : A) → Has (present os) x → Has os (Some x)
has-present [] x h = absurd (has-none x h)
has-present (None ∷ others) x h = has-later None (Some x) others (has-present others x h)
has-present (Some y ∷ others) x h = elim (has-cases y x (present others) h) [
  | inl same ↦ (0, ap (λ z. Some (Some z)) same)
  | inr later ↦ has-later (Some y) (Some x) others (has-present others x later)
]

-- what stands for something is among them
pub present-has : {A : Type 0} (os : List (Option A)) (x : A) → Has os (Some x) → Has (present os) x
present-has [] x h = absurd (has-none (Some x) h)
present-has (None ∷ others) x h = elim (has-cases None (Some x) others h) [
  | inl same ↦ absurd (none-some x same)
  | inr later ↦ present-has others x later
]
present-has (Some y ∷ others) x h = elim (has-cases (Some y) (Some x) others h) [
  | inl same ↦ (0, same)
  | inr later ↦ has-later y x (present others) (present-has others x later)
]

-- where each can be a member, each stands for something
pub present-length : (entries : Entries) (os : List (Option Meaning)) → list_all (can_be_member entries) os ≡ true
    → length (present os) ≡ length os
present-length entries [] h = refl
present-length entries (None ∷ others) h = absurd (false≢true h)
present-length entries (Some x ∷ others) h =
    ap suc (present-length entries others (and_parts (can_be_member entries (Some x)) _ h).1)

-- the meanings of a group's members
abbrev pub member_list : Entries → Entry → List Meaning
member_list entries group = present (meanings_of_members entries group)

made-present : {A B C : Type 0} (f : B → C) (g : A → Option B) (xs : List A)
    → filter_map (λ x. option_map f (g x)) xs ≡ map f (present (map g xs))
made-present f g [] = refl
made-present {A} {B} {C} f g (x ∷ xs) = by_case (g x) (made-present f g xs)
  where
    by_case : (o : Option B) → filter_map (λ y. option_map f (g y)) xs ≡ map f (present (map g xs))
        → cons_option (option_map f o) (filter_map (λ y. option_map f (g y)) xs) ≡ map f (present (o ∷ map g xs))
    by_case None rest = rest
    by_case (Some y) rest = ap (λ (zs : List C). f y ∷ zs) rest

-- the ids of members are those of what they stand for
pub member-ids : (entries : Entries) (group : Entry)
    → member_ids entries group ≡ map (basic_id entries) (member_list entries group)
member-ids entries group = made-present (basic_id entries)
    (λ (member : DraftReference). meaning_of_event entries group.container member.name) (members_of group.body)

-- ---- a member stands in the model without an expression

no-expression : (entries : Entries) (one : Entry) (b : DraftBody) → has_no_expression b ≡ true
    → expression_by entries one b ≡ None
no-expression entries one (body.Value None) h = refl
no-expression entries one (body.Value (Some value)) h = absurd (false≢true h)
no-expression entries one body.Nothing h = refl
no-expression entries one (body.Formula f) h = refl
no-expression entries one (body.State s) h = refl
no-expression entries one (body.Group g) h = refl
no-expression entries one (body.Start t) h = refl
no-expression entries one (body.Steps i l) h = refl
no-expression entries one (body.Walk w) h = refl

basic-kind-is : (its : DefinitionKind) → is_basic_event its ≡ true → its ≡ kind.BasicEvent
basic-kind-is kind.BasicEvent h = refl
basic-kind-is _ h = absurd (false≢true h)

-- a basic event that can be a member
abbrev pub IsMemberPair : Entries → Meaning → BasicEvent → Type 0
IsMemberPair entries m event = (slice_get (model_from entries).basics (basic_id entries m) ≡ Some event)
    × (event.expression ≡ None) × Has (all_pairs entries) (m, event)

own-member : (entries : Entries) (place : ℕ) (found : Option Entry) → slice_get entries place ≡ found
    → option_map_or (λ one. is_basic_event one.kind && has_no_expression one.body) found false ≡ true
    → (event : BasicEvent) × IsMemberPair entries (definition place) event
own-member entries place None at h = absurd (false≢true h)
own-member entries place (Some one) at h =
    let parts = and_parts (is_basic_event one.kind) (has_no_expression one.body) h in
    let b = basic-pair-at entries (definition place) (own_basic entries one)
    (own-pair entries place one at (basic-kind-is one.kind parts.0)) in
    (b.0, (b.1, without (pair-cases entries (definition place, b.0) b.2), b.2))
  where
    without : {event : BasicEvent} → IsOwn entries (definition place, event) ⊎ IsOfGroup entries
        (definition place, event) → event.expression ≡ None
    without {event} (inl own) =
        let number : place ≡ own.place = let k = ap (λ (p : Meaning × BasicEvent). p.0) own.pair_is in cc in
        let same : one ≡ own.one = same_Some one own.one (sym at ∙ ap (slice_get entries) number ∙ own.there) in
        let says : event.expression ≡ expression_by entries own.one own.one.body =
        ap (λ (p : Meaning × BasicEvent). p.1.expression) own.pair_is in
        says ∙ ap (λ (e : Entry). expression_by entries e e.body) (sym same)
        ∙ no-expression entries one one.body (and_parts (is_basic_event one.kind) (has_no_expression one.body)
        h).1
    without {event} (inr of) = let k = ap (λ (p : Meaning × BasicEvent). p.0) of.pair_is in absurd (cc)

-- what can be a member is a basic event of the model without an expression
pub member-pair : (entries : Entries) → AreEntries entries → (m : Meaning) → IsEvent entries m
    → can_be_member entries (Some m) ≡ true → (event : BasicEvent) × IsMemberPair entries m event
member-pair entries are (definition place) is h = own-member entries place (slice_get entries place) refl h
member-pair entries are (of_group name) is h =
    let d = defined-pair entries are name is in
    let b = basic-pair-at entries (of_group name) (group_basic d.1 name) d.4 in
    (b.0, (b.1, without (pair-cases entries (of_group name, b.0) b.2), b.2))
  where
    without : {event : BasicEvent} → IsOwn entries (of_group name, event) ⊎ IsOfGroup entries (of_group name, event)
        → event.expression ≡ None
    without {event} (inl own) = let k = ap (λ (p : Meaning × BasicEvent). p.0) own.pair_is in absurd (cc)
    without {event} (inr of) = ap (λ (p : Meaning × BasicEvent). p.1.expression) of.pair_is

-- a meaning among those of a group's members
pub member-is : (entries : Entries) → AreEntries entries → (group : Entry)
    → list_all (can_be_member entries) (meanings_of_members entries group) ≡ true → (m : Meaning)
    → Has (member_list entries group) m → (event : BasicEvent) × IsMemberPair entries m event
member-is entries are group can_be m here =
    let among = has-present (meanings_of_members entries group) m here in
    let r = from-map (λ (member : DraftReference). meaning_of_event entries group.container member.name)
    (members_of group.body) (Some m) among in
    member-pair entries are m (event-at entries group.container r.0.name m r.2)
    (all-at (can_be_member entries) (meanings_of_members entries group) (Some m) can_be among)
