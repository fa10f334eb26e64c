-- The basic events of the model, with what each stands for.
use Rattle.std.proofs.Common.{◌≡◌, ◌⊎◌, inl, inr, ◌==◌, ◌+◌, ℕ, zero, suc, Bool, true, false, List, [], ◌∷◌, ◌++◌, Some, None, map, refl, sym, ap, ap₂, ◌∙◌, subst}
use Rattle.std.proofs.lemmas.Bool.{false≢true, eq-eqb, eqb-true}
use Rattle.std.proofs.lemmas.List.{map-append}
use Rattle.std.proofs.lemmas.Option.{same_Some, slice_get-map}
use Rattle.std.proofs.lemmas.Slice.Eq.{bytes_eq-Decides}
use Rattle.std.specs.Prelude.{if◌then◌else◌, unwrap_or}
use Rattle.std.specs.List.{slice_get, flat_map, enumerate_from, list_any}
use Rattle.std.specs.Option.{option_map}
use Rattle.std.specs.Str.{bytes_eq}
use Rattle.psa_model.specs.PathNames.{Text}
use Rattle.psa_model.specs.declared.draft.DefinitionKind.TheVariants as kind
use Rattle.psa_model.specs.declared.draft.DraftBody.{DraftBody}
use Rattle.psa_model.specs.declared.draft.DraftBody.TheVariants as body
use Rattle.psa_model.specs.declared.draft.DraftGroup.{DraftGroup}
use Rattle.psa_model.specs.declared.draft.DraftReference.{DraftReference}
use Rattle.psa_model.specs.declared.model.BasicEvent.{BasicEvent}
use Rattle.psa_names.specs.Outlines.{Entry, Entries}
use Rattle.psa_names.specs.Meanings.{Meaning, definition, of_group, members_of, defined_by_group, is_defined_by_group}
use Rattle.psa_names.specs.GroupRules.{same_meaning}
use Rattle.psa_model.specs.Drafts.{has_body}
use Rattle.psa_names.specs.Ids.{kind_number, is_kind, basics_at, all_basics, basic_id}
use Rattle.psa_names.specs.ModelOfDraft.{model_name, expression_in, basics_of, model_from}
use Rattle.psa_names.proofs.ListPlaces.{map-map, Has, has-none, has-flat, from-flat, has-map, from-map, from-kept, map-at, any-from}
use Rattle.psa_names.proofs.FirstPlaces.{position-of, position-at, from-enumerated, has-enumerated}
use Rattle.psa_checks.proofs.KindForms.{basic-kind, group-kind, body-group}
use Rattle.psa_checks.proofs.Definitions.{IsEntry, AreEntries}

-- ---- the list with its meanings

-- one, or some, or none
abbrev pub pick : {A : Type 0} → Bool → Bool → A → List A → List A
pick b c x ys = if b then x ∷ [] else if c then ys else []

map-pick : {A B : Type 0} (f : A → B) (b c : Bool) (x : A) (ys : List A)
    → map f (pick b c x ys) ≡ pick b c (f x) (map f ys)
map-pick f true c x ys = refl
map-pick f false true x ys = refl
map-pick f false false x ys = refl

-- what stands in such a list
pub pick-cases : {A : Type 0} (b c : Bool) (x : A) (ys : List A) (y : A) → Has (pick b c x ys) y
    → ((b ≡ true) × (x ≡ y)) ⊎ ((c ≡ true) × Has ys y)
pick-cases true c x ys y h = inl (refl, only h.0 h.1)
  where
    only : (i : ℕ) → slice_get (x ∷ []) i ≡ Some y → x ≡ y
    only zero k = same_Some x y k
    only (suc i) k = absurd (has-none y (i, k))
pick-cases false true x ys y h = inr (refl, h)
pick-cases false false x ys y h = absurd (has-none y h)

-- a function over joined lists is one over each
pub map-flat : {A B C : Type 0} (f : B → C) (g : A → List B) (xs : List A)
    → map f (flat_map g xs) ≡ flat_map (λ x. map f (g x)) xs
map-flat f g [] = refl
map-flat {A} {B} {C} f g (x ∷ xs) = map-append f (g x) (flat_map g xs)
    ∙ ap (λ (rest : List C). map f (g x) ++ rest) (map-flat f g xs)

-- lists that are made alike are joined alike
pub flat-same : {A B : Type 0} (f g : A → List B) → ((x : A) → f x ≡ g x) → (xs : List A)
    → flat_map f xs ≡ flat_map g xs
flat-same f g same [] = refl
flat-same {A} {B} f g same (x ∷ xs) = ap₂ (λ (one rest : List B). one ++ rest) (same x) (flat-same f g same xs)

-- places do not change what is joined
pub flat-numbered : {A B : Type 0} (f : A → List B) (k : ℕ) (xs : List A)
    → flat_map (λ (one : ℕ × A). f one.1) (enumerate_from k xs) ≡ flat_map f xs
flat-numbered f k [] = refl
flat-numbered {A} {B} f k (x ∷ xs) = ap (λ (rest : List B). f x ++ rest) (flat-numbered f (k + 1) xs)

-- a basic event that is a definition
abbrev pub own_basic : Entries → Entry → BasicEvent
own_basic entries one = record { name = model_name one; place = one.place; expression = expression_in entries one }

-- a basic event that a group defines
abbrev pub group_basic : Entry → Text → BasicEvent
group_basic group name = record { name = name; place = group.place; expression = None }

-- what a definition adds to the basic events, each with what it stands for
abbrev pub basic_pairs : Entries → ℕ × Entry → List (Meaning × BasicEvent)
basic_pairs entries one =
    pick (is_kind kind.BasicEvent one.1) (is_kind kind.Group one.1) (definition one.0, own_basic entries one.1)
    (map (λ name. (of_group name, group_basic one.1 name)) (defined_by_group entries one.1))

-- all basic events, each with what it stands for
abbrev pub all_pairs : Entries → List (Meaning × BasicEvent)
all_pairs entries = flat_map (basic_pairs entries) (enumerate_from 0 entries)

-- what they stand for, in order
pub pair-meanings : (entries : Entries)
    → map (λ (pair : Meaning × BasicEvent). pair.0) (all_pairs entries) ≡ all_basics entries
pair-meanings entries = map-flat _ (basic_pairs entries) (enumerate_from 0 entries)
    ∙ flat-same _ (basics_at entries) one (enumerate_from 0 entries)
  where
    one : (x : ℕ × Entry) → map (λ (pair : Meaning × BasicEvent). pair.0) (basic_pairs entries x)
        ≡ basics_at entries x
    one x = map-pick (λ (pair : Meaning × BasicEvent). pair.0) (is_kind kind.BasicEvent x.1) (is_kind kind.Group x.1)
        _ _
        ∙ ap (λ (ys : List Meaning). pick (is_kind kind.BasicEvent x.1) (is_kind kind.Group x.1) (definition x.0) ys)
        (map-map _ _ (defined_by_group entries x.1))

-- they are the basic events of the model, in order
pub pair-events : (entries : Entries)
    → map (λ (pair : Meaning × BasicEvent). pair.1) (all_pairs entries) ≡ flat_map (basics_of entries) entries
pair-events entries =
    map-flat _ (basic_pairs entries) (enumerate_from 0 entries)
    ∙ flat-same _ (λ (x : ℕ × Entry). basics_of entries x.1) one (enumerate_from 0 entries)
    ∙ flat-numbered (basics_of entries) 0 entries
  where
    one : (x : ℕ × Entry) → map (λ (pair : Meaning × BasicEvent). pair.1) (basic_pairs entries x)
        ≡ basics_of entries x.1
    one x = map-pick (λ (pair : Meaning × BasicEvent). pair.1) (is_kind kind.BasicEvent x.1) (is_kind kind.Group x.1)
        _ _
        ∙ ap (λ (ys : List BasicEvent). pick (is_kind kind.BasicEvent x.1) (is_kind kind.Group x.1)
        (own_basic entries x.1) ys) (map-map _ _ (defined_by_group entries x.1))

-- ---- what the pairs are

-- the basic event is a definition
pub record IsOwn (entries : Entries) (pair : Meaning × BasicEvent) : Type 0 where
  pub place : ℕ
  pub one : Entry
  pub there : slice_get entries place ≡ Some one
  pub is : one.kind ≡ kind.BasicEvent
  pub pair_is : pair ≡ (definition place, own_basic entries one)

-- the basic event is one that a group defines
pub record IsOfGroup (entries : Entries) (pair : Meaning × BasicEvent) : Type 0 where
  pub place : ℕ
  pub one : Entry
  pub name : Text
  pub there : slice_get entries place ≡ Some one
  pub is : one.kind ≡ kind.Group
  pub defined : Has (defined_by_group entries one) name
  pub pair_is : pair ≡ (of_group name, group_basic one name)

-- each basic event is a definition, or one that a group defines
pub pair-cases : (entries : Entries) (pair : Meaning × BasicEvent) → Has (all_pairs entries) pair
    → IsOwn entries pair ⊎ IsOfGroup entries pair
pair-cases entries pair here =
    let r = from-flat (basic_pairs entries) (enumerate_from 0 entries) pair here in
    let there = from-enumerated entries r.0 r.1 in
    elim (pick-cases (is_kind kind.BasicEvent r.0.1) (is_kind kind.Group r.0.1) _ _ pair r.2) [
      | inl own ↦ inl (record {
        place = r.0.0;
        one = r.0.1;
        there = there;
        is = basic-kind r.0.1.kind own.0;
        pair_is = sym own.1;
      })
      | inr group ↦
          let m = from-map (λ name. (of_group name, group_basic r.0.1 name)) (defined_by_group entries r.0.1)
          pair group.1 in
          inr (record {
            place = r.0.0;
            one = r.0.1;
            name = m.0;
            there = there;
            is = group-kind r.0.1.kind group.0;
            defined = m.1;
            pair_is = sym m.2;
          })
    ]

-- the basic event that a definition is
pub own-pair : (entries : Entries) (place : ℕ) (one : Entry) → slice_get entries place ≡ Some one
    → one.kind ≡ kind.BasicEvent → Has (all_pairs entries) (definition place, own_basic entries one)
own-pair entries place one there is =
    let basic : is_kind kind.BasicEvent one ≡ true = ap (λ k. kind_number k == 2) is in
    has-flat (basic_pairs entries) (enumerate_from 0 entries) (place, one) _ (has-enumerated entries place one there)
    (rw basic (0, refl))

-- the basic event of a name that a group defines
pub group-pair : (entries : Entries) (place : ℕ) (one : Entry) (name : Text) → slice_get entries place ≡ Some one
    → one.kind ≡ kind.Group → Has (defined_by_group entries one) name
    → Has (all_pairs entries) (of_group name, group_basic one name)
group-pair entries place one name there is defined =
    let no_basic : is_kind kind.BasicEvent one ≡ false = ap (λ k. kind_number k == 2) is in
    let group : is_kind kind.Group one ≡ true = ap (λ k. kind_number k == 5) is in
    has-flat (basic_pairs entries) (enumerate_from 0 entries) (place, one) _ (has-enumerated entries place one there)
    (rw no_basic (rw group (has-map (λ n. (of_group n, group_basic one n)) (defined_by_group entries one)
    name defined)))

-- ---- meanings

-- texts that pass the test of equality are one
pub text-exact : (a b : Text) → bytes_eq a b ≡ true → a ≡ b
text-exact a b h = (bytes_eq-Decides a b).0 h

-- a text equals itself
pub text-own : (a : Text) → bytes_eq a a ≡ true
text-own a = (bytes_eq-Decides a a).1 refl

-- meanings that pass the test of equality are one
pub same-exact : (one other : Meaning) → same_meaning (Some one) (Some other) ≡ true → one ≡ other
same-exact (definition a) (definition b) h = ap definition (eqb-true a b h)
same-exact (of_group a) (of_group b) h = ap of_group (text-exact a b h)
same-exact (definition a) (of_group b) h = absurd (false≢true h)
same-exact (of_group a) (definition b) h = absurd (false≢true h)

-- a meaning equals itself
pub same-own : (one : Meaning) → same_meaning (Some one) (Some one) ≡ true
same-own (definition a) = eq-eqb a a refl
same-own (of_group a) = text-own a

-- what a basic event stands for is found by its id
pub basic-at : (entries : Entries) (m : Meaning) → Has (all_basics entries) m
    → slice_get (all_basics entries) (basic_id entries m) ≡ Some m
basic-at entries m here =
    let test = λ (one : Meaning). same_meaning (Some one) (Some m) in
    let r = position-of test (all_basics entries) m here (same-own m) in
    let x = position-at test (all_basics entries) r.0 r.1 in
    let found : basic_id entries m ≡ r.0 = ap (λ o. unwrap_or o 0) r.1 in
    ap (slice_get (all_basics entries)) found ∙ x.1 ∙ ap Some (same-exact x.0 m x.2)

-- a basic event of the model with a meaning
pub basic-pair-at : (entries : Entries) (m : Meaning) (b : BasicEvent) → Has (all_pairs entries) (m, b)
    → (event : BasicEvent) × (slice_get (model_from entries).basics (basic_id entries m) ≡ Some event) × Has
    (all_pairs entries) (m, event)
basic-pair-at entries m b here =
    let meanings = subst (λ (all : List Meaning). Has all m) (pair-meanings entries)
    (has-map (λ (pair : Meaning × BasicEvent). pair.0) (all_pairs entries) (m, b) here) in
    let at = basic-at entries m meanings in
    let r = map-at (λ (pair : Meaning × BasicEvent). pair.0) (all_pairs entries) (basic_id entries m) m
    (ap (λ (all : List Meaning). slice_get all (basic_id entries m)) (pair-meanings entries) ∙ at) in
    let pair : r.0 ≡ (m, r.0.1) = ap (λ (x : Meaning). (x, r.0.1)) r.2 in
    let event : slice_get (model_from entries).basics (basic_id entries m) ≡ Some r.0.1 =
    ap (λ (all : List BasicEvent). slice_get all (basic_id entries m)) (sym (pair-events entries))
    ∙ slice_get-map (λ (p : Meaning × BasicEvent). p.1) (all_pairs entries) (basic_id entries m)
    ∙ ap (option_map (λ (p : Meaning × BasicEvent). p.1)) r.1 in
    (r.0.1, event, (basic_id entries m, r.1 ∙ ap Some pair))

-- ---- what groups define

-- a body with members is that of a group
pub has-members : (its : DraftBody) (x : DraftReference) → Has (members_of its) x
    → (group : DraftGroup) × (its ≡ body.Group group)
has-members (body.Group group) x h = (group, refl)
has-members body.Nothing x h = absurd (has-none x h)
has-members (body.Formula f) x h = absurd (has-none x h)
has-members (body.Value v) x h = absurd (has-none x h)
has-members (body.State s) x h = absurd (has-none x h)
has-members (body.Start t) x h = absurd (has-none x h)
has-members (body.Steps i l) x h = absurd (has-none x h)
has-members (body.Walk b) x h = absurd (has-none x h)

-- what defines a basic event is a group
pub defining-group : (entries : Entries) (place : ℕ) (one : Entry) (name : Text) → IsEntry entries place one
    → Has (defined_by_group entries one) name → one.kind ≡ kind.Group
defining-group entries place one name is defined =
    let m = from-map _ _ name defined in
    let k = from-kept _ (members_of one.body) m.0 m.1 in
    let g = has-members one.body m.0 k.0 in
    body-group one.kind g.0 (subst (λ b. has_body one.kind b ≡ true) g.1 is.body)

-- the pair of a basic event that a group defines
pub defined-pair : (entries : Entries) → AreEntries entries → (name : Text) → is_defined_by_group entries name ≡ true
    → (place : ℕ) × (one : Entry) × (slice_get entries place ≡ Some one) × Has (defined_by_group entries one) name
    × Has (all_pairs entries) (of_group name, group_basic one name)
defined-pair entries are name h =
    let g = any-from (λ group. list_any (bytes_eq name) (defined_by_group entries group)) entries h in
    let n = any-from (bytes_eq name) (defined_by_group entries g.0) g.2 in
    let same : n.0 ≡ name = sym (text-exact name n.0 n.2) in
    let defined = subst (Has (defined_by_group entries g.0)) same n.1 in
    let is = defining-group entries g.1.0 g.0 name (are g.1.0 g.0 g.1.1) defined in
    (g.1.0, g.0, g.1.1, defined, group-pair entries g.1.0 g.0 name g.1.1 is defined)
