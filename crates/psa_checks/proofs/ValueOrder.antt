-- The order of values has each basic event that is no member, and each group, once and ascending.
use Rattle.std.proofs.Common.{◌≡◌, inl, inr, ◌<◌, ◌==◌, ℕ, zero, suc, Bool, true, false, cond, not, List, [], ◌∷◌, Some, map, length, ◌&&◌, refl, sym, ap, ◌∙◌, subst, arith}
use Rattle.std.proofs.lemmas.Bool.{false≢true, not_from_true, eq-eqb, cases_Bool}
use Rattle.std.proofs.lemmas.List.{length-map, map-id}
use Rattle.std.proofs.lemmas.Option.{same_Some, none-some}
use Rattle.std.specs.Prelude.{if◌then◌else◌}
use Rattle.std.specs.List.{slice_get, list_any, filter, filter_map, flat_map, enumerate_from, range_with_len}
use Rattle.psa_model.specs.declared.draft.DefinitionKind.{DefinitionKind}
use Rattle.psa_model.specs.declared.draft.DefinitionKind.TheVariants as kind
use Rattle.psa_model.specs.declared.model.BasicEvent.{BasicEvent}
use Rattle.psa_model.specs.declared.model.Valued.TheVariants as valued
use Rattle.psa_model.specs.Models.{basic_in, group_in, IsOrder}
use Rattle.psa_model.specs.Models.{members_of as model_members}
use Rattle.psa_names.specs.Outlines.{Entry, Entries}
use Rattle.psa_names.specs.Meanings.{Meaning, definition, of_group, members_of, defined_by_group}
use Rattle.psa_names.specs.Ids.{kind_number, is_kind, all_of_kind, id_of, basics_at, all_basics, basic_id}
use Rattle.psa_names.specs.ModelOfDraft.{model_from, group_of, is_member, valued_at}
use Rattle.psa_names.proofs.ListPlaces.{Has, has-none, has-first, has-later, has-map, from-map, from-flat, has-flat, has-kept, has-any}
use Rattle.psa_names.proofs.FirstPlaces.{from-enumerated, has-enumerated}
use Rattle.psa_checks.proofs.KindForms.{basic-kind, group-kind}
use Rattle.psa_checks.proofs.Definitions.{AreEntries, made-at}
use Rattle.psa_checks.proofs.BasicEvents.{map-flat, flat-same, pick, pick-cases, all_pairs, pair-meanings, pair-events, basic-at}
use Rattle.psa_checks.proofs.AllowedGroups.{group-allowed}
use Rattle.psa_checks.proofs.GroupMembers.{member_list}
use Rattle.psa_checks.proofs.MembersDiffer.{AreDistinct, distinct-joined, groups-apart, AreNumbered, enumerated-ascend, kind-ascends, all_members, group-at}
use Rattle.psa_checks.proofs.JoinedLists.{map-flat-in, made-flat, kept-flat, none-kept, flat-kept, map-range}
use Rattle.psa_checks.proofs.ModelMembers.{model-members, is-member, absent-meaning, defined-member, defined-distinct}

-- ---- basic events stand once

at-distinct : (entries : Entries) → AreEntries entries → (one : ℕ × Entry) → slice_get entries one.0 ≡ Some one.1
    → AreDistinct (basics_at entries one)
at-distinct entries are one there = by_kind (is_kind kind.BasicEvent one.1) (is_kind kind.Group one.1) refl
  where
    by_kind : (b c : Bool) → is_kind kind.Group one.1 ≡ c
        → AreDistinct (pick b c (definition one.0) (map of_group (defined_by_group entries one.1)))
    by_kind true c at = ((λ y h same. has-none y h), tt)
    by_kind false true at =
        let is = group-kind one.1.kind at in
        let allowed = group-allowed entries one.0 one.1 (are one.0 one.1 there) is in
        defined-distinct entries one.1 (members_of one.1.body)
        (λ m here h. absent-meaning entries one.0 one.1 m there here h) allowed.no_repeat
    by_kind false false at = tt

at-apart : (entries : Entries) → AreEntries entries → (one other : ℕ × Entry) → one.0 < other.0
    → slice_get entries one.0 ≡ Some one.1 → slice_get entries other.0 ≡ Some other.1 → (x y : Meaning)
    → Has (basics_at entries one) x → Has (basics_at entries other) y → x ≡ y → ⊥
at-apart entries are one other l first later x y here there same =
    elim (pick-cases (is_kind kind.BasicEvent one.1) (is_kind kind.Group one.1) (definition one.0)
    (map of_group (defined_by_group entries one.1)) x here) [
      | inl a ↦ elim (pick-cases (is_kind kind.BasicEvent other.1) (is_kind kind.Group other.1) (definition other.0)
          (map of_group (defined_by_group entries other.1)) y there) [
            | inl b ↦ let k : one.0 ≡ other.0 = (let p = a.1 in let q = b.1 in cc) in omega (arith, l, k)
            | inr b ↦ let r = from-map of_group (defined_by_group entries other.1)
                y b.1 in (let p = a.1 in let q = r.2 in absurd (cc))
          ]
      | inr a ↦
          let r = from-map of_group (defined_by_group entries one.1) x a.1 in
          elim (pick-cases (is_kind kind.BasicEvent other.1) (is_kind kind.Group other.1) (definition other.0)
          (map of_group (defined_by_group entries other.1)) y there) [
            | inl b ↦ (let p = r.2 in let q = b.1 in absurd (cc))
            | inr b ↦
                let s = from-map of_group (defined_by_group entries other.1) y b.1 in
                groups-apart entries are one.0 other.0 one.1 other.1 l first later (group-kind other.1.kind b.0)
                (of_group r.0) (of_group s.0)
                (defined-member entries one.0 one.1 r.0 first r.1)
                (defined-member entries other.0 other.1 s.0 later s.1) (r.2 ∙ same ∙ sym s.2)
          ]
    ]

some-distinct : (entries : Entries) → AreEntries entries → (some : List (ℕ × Entry)) → AreNumbered some
    → ((one : ℕ × Entry) → Has some one → slice_get entries one.0 ≡ Some one.1)
    → AreDistinct (flat_map (basics_at entries) some)
some-distinct entries are [] ascend all = tt
some-distinct entries are (one ∷ some) ascend all =
    distinct-joined (basics_at entries one) _ (at-distinct entries are one (all one (has-first one some)))
    (some-distinct entries are some ascend.1 (λ o later. all o (has-later one o some later)))
    (λ x y here there. (let r = from-flat (basics_at entries) some y there in
    at-apart entries are one r.0 (ascend.0 r.0 r.1) (all one (has-first one some))
    (all r.0 (has-later one r.0 some r.1)) x y here r.2))

basics-distinct : (entries : Entries) → AreEntries entries → AreDistinct (all_basics entries)
basics-distinct entries are = some-distinct entries are (enumerate_from 0 entries) (enumerated-ascend 0 entries)
    (from-enumerated entries)

only-place : (xs : List Meaning) → AreDistinct xs → (i j : ℕ) (x : Meaning) → slice_get xs i ≡ Some x
    → slice_get xs j ≡ Some x → i ≡ j
only-place [] distinct i j x h k = absurd (none-some x h)
only-place (y ∷ xs) distinct zero zero x h k = refl
only-place (y ∷ xs) distinct zero (suc j) x h k = absurd (distinct.0 x (j, k) (same_Some y x h))
only-place (y ∷ xs) distinct (suc i) zero x h k = absurd (distinct.0 x (i, h) (same_Some y x k))
only-place (y ∷ xs) distinct (suc i) (suc j) x h k = ap suc (only-place xs distinct.1 i j x h k)

-- the id of a basic event is its place
pub id-place : (entries : Entries) → AreEntries entries → (i : ℕ) (m : Meaning)
    → slice_get (all_basics entries) i ≡ Some m → basic_id entries m ≡ i
id-place entries are i m h = only-place (all_basics entries) (basics-distinct entries are) (basic_id entries m) i m
    (basic-at entries m (i, h)) h

basics-length : (entries : Entries) → length (model_from entries).basics ≡ length (all_basics entries)
basics-length entries =
    ap length (sym (pair-events entries)) ∙ length-map (all_pairs entries) (λ (p : Meaning × BasicEvent). p.1)
    ∙ sym (length-map (all_pairs entries) (λ (p : Meaning × BasicEvent). p.0)) ∙ ap length (pair-meanings entries)

-- ---- basic events in order

in-order : (entries : Entries) → AreEntries entries → (one : ℕ × Entry) → slice_get entries one.0 ≡ Some one.1
    → filter_map basic_in (valued_at entries one) ≡ filter
    (λ id. not (list_any (λ m. m == id) (model_members (model_from entries))))
    (map (basic_id entries) (basics_at entries one))
in-order entries are one there = by_kind (is_kind kind.BasicEvent one.1) (is_kind kind.Group one.1) refl refl
  where
    by_kind : (b c : Bool) → is_kind kind.BasicEvent one.1 ≡ b → is_kind kind.Group one.1 ≡ c
        → filter_map basic_in (valued_at entries one) ≡ filter
        (λ id. not (list_any (λ m. m == id) (model_members (model_from entries))))
        (map (basic_id entries) (basics_at entries one))
    by_kind true true basic group = let is = basic-kind one.1.kind basic in absurd
        (false≢true (sym (ap (λ (k : DefinitionKind). kind_number k == 5) is) ∙ group))
    by_kind true false basic group = rw group (rw basic (
        elim (cases_Bool (is_member entries (basic_id entries (definition one.0)))) [
          | inl member ↦
              let other = sym (is-member entries (basic_id entries (definition one.0))) ∙ member in
              rw member (rw other refl)
          | inr free ↦
              let other = sym (is-member entries (basic_id entries (definition one.0))) ∙ free in
              rw free (rw other refl)
        ]))
    by_kind false true basic group =
        let is = group-kind one.1.kind group in
        let none = none-kept (λ id. not (list_any (λ m. m == id) (model_members (model_from entries))))
        (map (basic_id entries) (map of_group (defined_by_group entries one.1))) (λ id here.
        (let a = from-map (basic_id entries) (map of_group (defined_by_group entries one.1)) id here in
        let b = from-map of_group (defined_by_group entries one.1) a.0 a.1 in
        let listed = defined-member entries one.0 one.1 b.0 there b.1 in
        let among : Has (all_of_kind kind.Group entries) one = has-kept (λ (o : ℕ × Entry). is_kind kind.Group o.1)
        (enumerate_from 0 entries) one (has-enumerated entries one.0 one.1 there) group in
        let member = has-flat (λ (o : ℕ × Entry). member_list entries o.1) (all_of_kind kind.Group entries) one
        (of_group b.0) among listed in
        let there_id : Has (model_members (model_from entries)) (basic_id entries (of_group b.0)) =
        subst (λ (all : List ℕ). Has all (basic_id entries (of_group b.0))) (sym (model-members entries))
        (has-map (basic_id entries) (all_members entries) (of_group b.0) member) in
        let same : basic_id entries (of_group b.0) ≡ id = ap (basic_id entries) b.2 ∙ a.2 in
        not_from_true _ (has-any (λ m. m == id) (model_members (model_from entries)) (basic_id entries (of_group b.0))
        there_id (eq-eqb (basic_id entries (of_group b.0)) id same)))) in
        rw group (rw basic (sym none))
    by_kind false false basic group = rw group (rw basic refl)

-- the basic events that are no members stand in order
pub basics-order : (entries : Entries) → AreEntries entries
    → filter_map basic_in (model_from entries).order ≡ filter
    (λ id. not (list_any (λ m. m == id) (model_members (model_from entries))))
    (range_with_len 0 (length (model_from entries).basics))
basics-order entries are =
    let test = λ (id : ℕ). not (list_any (λ m. m == id) (model_members (model_from entries))) in
    let ids : map (basic_id entries) (all_basics entries) ≡ range_with_len 0 (length (model_from entries).basics) =
    map-range (basic_id entries) 0 (all_basics entries)
    (λ i m h. (let at = id-place entries are i m h in omega (arith, at)))
    ∙ ap (range_with_len 0) (sym (basics-length entries)) in
    made-flat basic_in (valued_at entries) (enumerate_from 0 entries)
    ∙ map-flat-in _ (λ (one : ℕ × Entry). filter test (map (basic_id entries) (basics_at entries one)))
    (enumerate_from 0 entries) (λ (one : ℕ × Entry) here. in-order entries are one
    (from-enumerated entries one here))
    ∙ sym (kept-flat test (λ (one : ℕ × Entry). map (basic_id entries) (basics_at entries one))
    (enumerate_from 0 entries))
    ∙ ap (filter test) (sym (map-flat (basic_id entries) (basics_at entries) (enumerate_from 0 entries)) ∙ ids)

-- ---- groups in order

group-in-order : (entries : Entries) (one : ℕ × Entry)
    → filter_map group_in (valued_at entries one) ≡ cond (is_kind kind.Group one.1)
    (id_of kind.Group entries one.0 ∷ []) []
group-in-order entries one = by_kind (is_kind kind.Group one.1)
    (is_kind kind.BasicEvent one.1 && not (is_member entries (basic_id entries (definition one.0))))
  where
    by_kind : (b c : Bool) → filter_map group_in
        (if b then valued.Group (record { 0 = id_of kind.Group entries one.0 }) ∷ [] else if c then valued.Basic
        (record { 0 = basic_id entries (definition one.0) }) ∷ [] else []) ≡ cond b
        (id_of kind.Group entries one.0 ∷ []) []
    by_kind true c = refl
    by_kind false true = refl
    by_kind false false = refl

number-place : {A : Type 0} (xs : List (ℕ × A)) → AreNumbered xs → (i j : ℕ) (x y : ℕ × A) → slice_get xs i ≡ Some x
    → slice_get xs j ≡ Some y → x.0 ≡ y.0 → i ≡ j
number-place [] ascend i j x y h k same = absurd (none-some x h)
number-place (z ∷ xs) ascend zero zero x y h k same = refl
number-place {A} (z ∷ xs) ascend zero (suc j) x y h k same =
    let less = ascend.0 y (j, k) in let first = ap (λ (o : ℕ × A). o.0) (same_Some z x h) in absurd
    (omega (arith, less, first, same))
number-place {A} (z ∷ xs) ascend (suc i) zero x y h k same =
    let less = ascend.0 x (i, h) in let first = ap (λ (o : ℕ × A). o.0) (same_Some z y k) in absurd
    (omega (arith, less, first, same))
number-place (z ∷ xs) ascend (suc i) (suc j) x y h k same = ap suc (number-place xs ascend.1 i j x y h k same)

group-place : (entries : Entries) (i : ℕ) (one : ℕ × Entry) → slice_get (all_of_kind kind.Group entries) i ≡ Some one
    → id_of kind.Group entries one.0 ≡ i
group-place entries i one h =
    let g = group-at entries one (i, h) in
    let right : is_kind kind.Group one.1 ≡ true = ap (λ (k : DefinitionKind). kind_number k == 5) g.1 in
    let at = made-at kind.Group entries (λ (o : ℕ × Entry). o) one.0 one.1 g.0 right in
    let own : slice_get (all_of_kind kind.Group entries) (id_of kind.Group entries one.0) ≡ Some (one.0, one.1) =
    ap (λ (all : List (ℕ × Entry)). slice_get all (id_of kind.Group entries one.0))
    (sym (map-id (all_of_kind kind.Group entries))) ∙ at in
    number-place (all_of_kind kind.Group entries) (kind-ascends kind.Group entries) (id_of kind.Group entries one.0) i
    (one.0, one.1) one own h refl

-- the groups stand in order
pub groups-order : (entries : Entries)
    → filter_map group_in (model_from entries).order ≡ range_with_len 0 (length (model_from entries).groups)
groups-order entries =
    made-flat group_in (valued_at entries) (enumerate_from 0 entries)
    ∙ flat-same _ (λ (one : ℕ × Entry). cond (is_kind kind.Group one.1) (id_of kind.Group entries one.0 ∷ []) [])
    (group-in-order entries) (enumerate_from 0 entries)
    ∙ flat-kept (λ (one : ℕ × Entry). is_kind kind.Group one.1) (λ (one : ℕ × Entry). id_of kind.Group entries one.0)
    (enumerate_from 0 entries)
    ∙ map-range (λ (one : ℕ × Entry). id_of kind.Group entries one.0) 0 (all_of_kind kind.Group entries)
    (λ i one h. (let at = group-place entries i one h in omega (arith, at)))
    ∙ ap (range_with_len 0) (sym (length-map (all_of_kind kind.Group entries)
    (λ (one : ℕ × Entry). group_of entries one.1)))

-- the order of the model
pub order-of : (entries : Entries) → AreEntries entries → IsOrder (model_from entries)
order-of entries are = record { basics = basics-order entries are; groups = groups-order entries }
