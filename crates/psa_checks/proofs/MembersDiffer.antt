-- The members of all groups differ.
use Rattle.std.proofs.Common.{◌≡◌, inl, inr, ◌<◌, ◌+◌, ◌==◌, ℕ, zero, suc, Bool, true, false, List, [], ◌∷◌, ◌++◌, Option, Some, None, map, refl, sym, ap, ◌∙◌, subst, arith}
use Rattle.std.proofs.lemmas.Bool.{and_from, or_parts, not_from_false, eqb-true, cases_Bool, false_from_ne_true, both_ways}
use Rattle.std.proofs.lemmas.Option.{same_Some, none-some}
use Rattle.std.specs.Prelude.{take}
use Rattle.std.specs.List.{slice_get, list_any, filter, flat_map, enumerate_from}
use Rattle.psa_model.specs.declared.draft.DefinitionKind.{DefinitionKind}
use Rattle.psa_model.specs.declared.draft.DefinitionKind.TheVariants as kind
use Rattle.psa_model.specs.declared.model.BasicEvent.{BasicEvent}
use Rattle.psa_model.specs.Models.{are_different}
use Rattle.psa_names.specs.Outlines.{Entry, Entries}
use Rattle.psa_names.specs.Meanings.{Meaning}
use Rattle.psa_names.specs.GroupRules.{same_meaning, meanings_of_members, has_repeat, have_one_in_common}
use Rattle.psa_names.specs.Ids.{is_kind, all_of_kind, all_basics, basic_id}
use Rattle.psa_names.proofs.ListPlaces.{Has, has-first, has-later, append-cases, has-map, from-map, from-flat, from-kept, has-any, any-from}
use Rattle.psa_names.proofs.FirstPlaces.{enumerated-at}
use Rattle.psa_checks.proofs.KindForms.{group-kind}
use Rattle.psa_checks.proofs.Definitions.{AreEntries, from-made}
use Rattle.psa_checks.proofs.BasicEvents.{all_pairs, pair-meanings, basic-at, same-own}
use Rattle.psa_checks.proofs.AllowedGroups.{group-allowed}
use Rattle.psa_checks.proofs.GroupMembers.{present, has-present, member_list, member-is}

-- ---- members differ

-- no meaning stands twice
abbrev pub AreDistinct : List Meaning → Type 0
AreDistinct [] = Unit {0}
AreDistinct (x ∷ xs) = ((y : Meaning) → Has xs y → x ≡ y → ⊥) × AreDistinct xs

-- lists without repeats and without a meaning in common, joined
pub distinct-joined : (xs ys : List Meaning) → AreDistinct xs → AreDistinct ys
    → ((x y : Meaning) → Has xs x → Has ys y → x ≡ y → ⊥) → AreDistinct (xs ++ ys)
distinct-joined [] ys h k cross = k
distinct-joined (x ∷ xs) ys h k cross = (
  (λ y here same. elim (append-cases xs ys y here) [
    | inl left ↦ h.0 y left same
    | inr right ↦ cross x y (has-first x xs) right same
  ]),
  distinct-joined xs ys h.1 k (λ a b l r. cross a b (has-later x a xs l) r),
)

-- members that pass the test of repeats are without repeats
pub no-repeat-distinct : (os : List (Option Meaning)) → has_repeat os ≡ false → AreDistinct (present os)
no-repeat-distinct [] h = tt
no-repeat-distinct (None ∷ others) h = no-repeat-distinct others
    (or_parts (list_any (same_meaning None) others) (has_repeat others) h).1
no-repeat-distinct (Some x ∷ others) h =
    let parts = or_parts (list_any (same_meaning (Some x)) others) (has_repeat others) h in (
      (λ y here same. both_ways (list_any (same_meaning (Some x)) others) parts.0
          (has-any (same_meaning (Some x)) others (Some y) (has-present others y here)
          (subst (λ (z : Meaning). same_meaning (Some x) (Some z) ≡ true) same (same-own x)))),
      no-repeat-distinct others parts.1,
    )

in-front : {A : Type 0} (xs : List A) (i n : ℕ) (x : A) → i < n → slice_get xs i ≡ Some x → Has (take n xs) x
in-front [] i n x l h = absurd (none-some x h)
in-front (y ∷ xs) i zero x l h = absurd (omega (arith, l))
in-front (y ∷ xs) zero (suc n) x l h = (0, h)
in-front (y ∷ xs) (suc i) (suc n) x l h = has-later y x (take n xs) (in-front xs i n x (omega (arith, l)) h)

-- members of two groups differ
pub groups-apart : (entries : Entries) → AreEntries entries → (i j : ℕ) (one other : Entry) → i < j
    → slice_get entries i ≡ Some one → slice_get entries j ≡ Some other → other.kind ≡ kind.Group → (x y : Meaning)
    → Has (member_list entries one) x → Has (member_list entries other) y → x ≡ y → ⊥
groups-apart entries are i j one other l first later is x y here there same =
    let allowed = group-allowed entries j other (are j other later) is in
    let common : have_one_in_common (meanings_of_members entries other) (meanings_of_members entries one) ≡ true =
    has-any (λ o. list_any (same_meaning o) (meanings_of_members entries one)) (meanings_of_members entries other)
    (Some y) (has-present (meanings_of_members entries other) y there)
    (has-any (same_meaning (Some y)) (meanings_of_members entries one) (Some x)
    (has-present (meanings_of_members entries one) x here)
    (subst (λ (z : Meaning). same_meaning (Some y) (Some z) ≡ true) (sym same) (same-own y))) in
    both_ways _ allowed.apart (has-any (λ before. have_one_in_common (meanings_of_members entries other)
    (meanings_of_members entries before)) (take j entries) one (in-front entries i j one l first) common)

-- ---- definitions of a kind stand in order

-- the places of these elements ascend
abbrev pub AreNumbered : {A : Type 0} → List (ℕ × A) → Type 0
AreNumbered [] = Unit {0}
AreNumbered {A} (x ∷ xs) = ((y : ℕ × A) → Has xs y → x.0 < y.0) × AreNumbered xs

-- elements with their places
pub enumerated-ascend : {A : Type 0} (k : ℕ) (xs : List A) → AreNumbered (enumerate_from k xs)
enumerated-ascend k [] = tt
enumerated-ascend {A} k (x ∷ xs) = (
  (λ (y : ℕ × A) here. (let r = enumerated-at (k + 1) xs here.0 y here.1 in let n = r.0 in omega (arith, n))),
  enumerated-ascend (k + 1) xs,
)

-- those of them that pass a test
pub kept-ascend : {A : Type 0} (p : ℕ × A → Bool) (xs : List (ℕ × A)) → AreNumbered xs → AreNumbered (filter p xs)
kept-ascend p [] h = tt
kept-ascend {A} p (x ∷ xs) h = elim (cases_Bool (p x)) [
  | inl passes ↦ rw passes ((λ (y : ℕ × A) here. h.0 y (from-kept p xs y here).0), kept-ascend p xs h.1)
  | inr fails ↦ rw fails (kept-ascend p xs h.1)
]

-- definitions of a kind stand in order
pub kind-ascends : (its : DefinitionKind) (entries : Entries) → AreNumbered (all_of_kind its entries)
kind-ascends its entries = kept-ascend (λ one. is_kind its one.1) (enumerate_from 0 entries)
    (enumerated-ascend 0 entries)

-- ---- all members

-- the meanings of the members of all groups
abbrev pub all_members : Entries → List Meaning
all_members entries = flat_map (λ (one : ℕ × Entry). member_list entries one.1) (all_of_kind kind.Group entries)

members-distinct : (entries : Entries) → AreEntries entries → (some : List (ℕ × Entry)) → AreNumbered some
    → ((one : ℕ × Entry) → Has some one → (slice_get entries one.0 ≡ Some one.1) × (one.1.kind ≡ kind.Group))
    → AreDistinct (flat_map (λ (one : ℕ × Entry). member_list entries one.1) some)
members-distinct entries are [] ascend all = tt
members-distinct entries are (one ∷ some) ascend all =
    let first = all one (has-first one some) in
    let allowed = group-allowed entries one.0 one.1 (are one.0 one.1 first.0) first.1 in
    distinct-joined (member_list entries one.1) _
    (no-repeat-distinct (meanings_of_members entries one.1) allowed.no_repeat)
    (members-distinct entries are some ascend.1 (λ o later. all o (has-later one o some later)))
    (λ x y here there. (let r = from-flat (λ (o : ℕ × Entry). member_list entries o.1) some y there in
    let other = all r.0 (has-later one r.0 some r.1) in
    groups-apart entries are one.0 r.0.0 one.1 r.0.1 (ascend.0 r.0 r.1) first.0 other.0 other.1 x y here r.2))

-- a group of the list of groups is a definition of that kind
pub group-at : (entries : Entries) (one : ℕ × Entry) → Has (all_of_kind kind.Group entries) one
    → (slice_get entries one.0 ≡ Some one.1) × (one.1.kind ≡ kind.Group)
group-at entries one here = let r = from-made kind.Group entries one here in (r.0, group-kind one.1.kind r.1)

-- no meaning is a member twice
pub all-distinct : (entries : Entries) → AreEntries entries → AreDistinct (all_members entries)
all-distinct entries are = members-distinct entries are (all_of_kind kind.Group entries)
    (kind-ascends kind.Group entries) (group-at entries)

-- each member is among the basic events
pub member-among : (entries : Entries) → AreEntries entries → (m : Meaning) → Has (all_members entries) m
    → Has (all_basics entries) m
member-among entries are m here =
    let r = from-flat (λ (one : ℕ × Entry). member_list entries one.1) (all_of_kind kind.Group entries) m here in
    let g = group-at entries r.0 r.1 in
    let allowed = group-allowed entries r.0.0 r.0.1 (are r.0.0 r.0.1 g.0) g.1 in
    let p = member-is entries are r.0.1 allowed.can_be m r.2 in
    subst (λ (all : List Meaning). Has all m) (pair-meanings entries)
    (has-map (λ (pair : Meaning × BasicEvent). pair.0) (all_pairs entries) (m, p.0) p.1.2)

-- what basic events stand for differs where their ids do
pub id-exact : (entries : Entries) (a b : Meaning) → Has (all_basics entries) a → Has (all_basics entries) b
    → basic_id entries a ≡ basic_id entries b → a ≡ b
id-exact entries a b here there same =
    same_Some a b (sym (basic-at entries a here) ∙ ap (slice_get (all_basics entries)) same
    ∙ basic-at entries b there)

-- meanings without repeats have different ids
pub ids-different : (entries : Entries) (ms : List Meaning) → AreDistinct ms
    → ((m : Meaning) → Has ms m → Has (all_basics entries) m) → are_different (map (basic_id entries) ms) ≡ true
ids-different entries [] distinct among = refl
ids-different entries (m ∷ ms) distinct among =
    and_from _ _
    (not_from_false _ (false_from_ne_true (list_any (λ y. y == basic_id entries m) (map (basic_id entries) ms)) (λ h.
    (let r = any-from (λ y. y == basic_id entries m) (map (basic_id entries) ms) h in
    let x = from-map (basic_id entries) ms r.0 r.1 in
    let equal = x.2 ∙ eqb-true r.0 (basic_id entries m) r.2 in
    distinct.0 x.0 x.1 (id-exact entries m x.0 (among m (has-first m ms)) (among x.0 (has-later m x.0 ms x.1))
    (sym equal))))))
    (ids-different entries ms distinct.1 (λ x later. among x (has-later m x ms later)))
