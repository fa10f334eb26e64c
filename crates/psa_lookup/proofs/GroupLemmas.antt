-- The groups of a draft, one behind the other, and the fault of the first that is not allowed.
use Rattle.std.proofs.Common.{◌≡◌, ◌≤◌, ◌<◌, ◌+◌, ◌&&◌, ◌||◌, ℕ, zero, suc, Bool, true, false, List, [], ◌∷◌, ◌++◌, length, map, filter, flat_map, take, slice_get, nat_le, Option, Some, None, Result, Ok, Err, IfOk, not, if◌then◌else◌, refl, sym, ap, ◌∙◌, subst, arith, inl, inr}
use Rattle.std.proofs.lemmas.Bool.{false≢true, cases_lt, and_parts}
use Rattle.std.proofs.lemmas.List.{length-map, map-append}
use Rattle.std.proofs.lemmas.Option.{slice_get_within}
use Rattle.std.specs.List.{list_all, list_any, enumerate_from}
use Rattle.psa_model.specs.Drafts.{Position, are_ascending, has_body, position_of, stands_before}
use Rattle.psa_model.specs.PathNames.{Text}
use Rattle.psa_model.specs.declared.draft.DefinitionKind.{DefinitionKind}
use Rattle.psa_model.specs.declared.draft.DefinitionKind.TheVariants as kind
use Rattle.psa_model.specs.declared.draft.DraftBody.{DraftBody}
use Rattle.psa_model.specs.declared.draft.DraftBody.TheVariants as body
use Rattle.psa_model.specs.declared.draft.DraftDefinition.{DraftDefinition}
use Rattle.psa_model.specs.declared.draft.DraftGroup.{DraftGroup}
use Rattle.psa_model.specs.declared.draft.DraftReference.{DraftReference}
use Rattle.psa_model.specs.declared.fault.FaultKind.TheVariants.{BadGroup}
use Rattle.psa_model.specs.declared.limits.TheConstants.{MIN_MEMBERS, MAX_MEMBERS}
use Rattle.psa_names.specs.GroupRules.{same_meaning, meanings_of_members, has_repeat, can_be_member, have_one_in_common, body_has_levels, has_levels, is_allowed_group}
use Rattle.psa_names.specs.Meanings.{Meaning, meaning_of_event, members_of}
use Rattle.psa_names.specs.NameFaults.{bad_groups}
use Rattle.psa_names.specs.NameSpaces.{groups, same_family, family_of}
use Rattle.psa_names.specs.Outlines.{Entry, Entries, entry_of}
use Rattle.psa_names.specs.PlacedFaults.{PlacedFault, fault_of, earlier, earliest}
use Rattle.psa_names.specs.declared.found.Sense.{Sense}
use Rattle.psa_lookup.specs.Members.{sense_of, may_join, may_stand, is_bad_group, senses_of_members, AreMembersOf}
use Rattle.std.specs.Option.{option_map}
use Rattle.psa_lookup.specs.Sooner.{placed_fault}
use Rattle.psa_lookup.specs.declared.placed.Placed.{Placed}
use Rattle.psa_lookup.proofs.BoolLemmas.{any-flat, any-same, any-never, flat-one}
use Rattle.psa_lookup.proofs.MemberLemmas.{AreKnown, any-or, join-known, members-known, all-known}
use Rattle.psa_lookup.proofs.PositionLemmas.{before-not-back, first-before}

-- ---- a group behind others

-- two searches in another order
any-swap : {A B : Type 0} (p : A → B → Bool) (xs : List A) (ys : List B) → list_any (λ x. list_any (p x) ys) xs ≡ list_any (λ y. list_any (λ x. p x y) xs) ys
any-swap p [] ys = sym (any-never (λ y. false) ys (λ y. refl))
any-swap p (x ∷ xs) ys =
    ap (λ b. list_any (p x) ys || b) (any-swap p xs ys)
    ∙ sym (any-or (p x) (λ y. list_any (λ z. p z y) xs) ys)

-- a member is one of those before exactly where a group before has one in common
common-before : (entries before : Entries) (ms : List (Option Meaning)) → list_any (λ one. list_any (same_meaning one) (flat_map (meanings_of_members entries) before)) ms ≡ list_any (λ other. have_one_in_common ms (meanings_of_members entries other)) before
common-before entries before ms =
    any-same (λ one. list_any (same_meaning one) (flat_map (meanings_of_members entries) before)) (λ one. list_any (λ other. list_any (same_meaning one) (meanings_of_members entries other)) before) ms
    (λ one. any-flat (same_meaning one) (meanings_of_members entries) before)
    ∙ any-swap (λ one other. list_any (same_meaning one) (meanings_of_members entries other)) ms before

-- the tests of a group in another order
group-tests : (x l a r c : Bool) → ((x && l) && (a && (r && c))) ≡ ((((x && r) && a) && c) && l)
group-tests false l a r c = refl
group-tests true l a false c = by l a
  where
    by : (l a : Bool) → (l && (a && false)) ≡ false
    by false a = refl
    by true false = refl
    by true true = refl
group-tests true l false true c = by l
  where
    by : (l : Bool) → (l && false) ≡ false
    by false = refl
    by true = refl
group-tests true l true true false = by l
  where
    by : (l : Bool) → (l && false) ≡ false
    by false = refl
    by true = refl
group-tests true false true true true = refl
group-tests true true true true true = refl

-- what is asked of a group of this body in a container
abbrev allowed_by : Entries → Entries → List (Option Meaning) → Bool → Bool
allowed_by entries before ms levels =
    nat_le MIN_MEMBERS (length ms) && nat_le (length ms) MAX_MEMBERS
    && not (has_repeat ms)
    && list_all (can_be_member entries) ms
    && not (list_any (λ other. have_one_in_common ms (meanings_of_members entries other)) before)
    && levels

-- what some members mean inside a container
abbrev meant_in : Entries → List Text → List DraftReference → List (Option Meaning)
meant_in entries container members = map (λ member. meaning_of_event entries container member.name) members

-- the rule of a group by its body
allowed-is : (entries before : Entries) (d : DraftDefinition) (group : DraftGroup) → d.body ≡ body.Group group → is_allowed_group entries before (entry_of d) ≡ allowed_by entries before (meant_in entries d.container group.members) (has_levels group.model (length group.members) group.factors)
allowed-is entries before d group is =
    ap (λ (b : DraftBody). allowed_by entries before (meant_in entries d.container (members_of b)) (body_has_levels b)) is

-- what is kept of members is what is kept of their meanings
senses-kept : (entries : Entries) (container : List Text) (members : List DraftReference) → senses_of_members entries container members ≡ map (sense_of entries) (meant_in entries container members)
senses-kept entries container [] = refl
senses-kept entries container (one ∷ others) =
    ap (λ (l : List (Option Sense)). sense_of entries (meaning_of_event entries container one.name) ∷ l) (senses-kept entries container others)

-- what the members of a definition's group mean
group-members : (entries : Entries) (d : DraftDefinition) (group : DraftGroup) → d.body ≡ body.Group group → meanings_of_members entries (entry_of d) ≡ meant_in entries d.container group.members
group-members entries d group is = ap (λ (b : DraftBody). meant_in entries d.container (members_of b)) is

-- a group may stand exactly where it is allowed
pub stands-allowed : (entries before : Entries) (standing : List Sense) (d : DraftDefinition) (group : DraftGroup) → d.body ≡ body.Group group → AreMembersOf entries before standing → may_stand entries standing d.container group ≡ is_allowed_group entries before (entry_of d)
stands-allowed entries before standing d group is are =
    let ms = meant_in entries d.container group.members in
    let known = subst (λ (l : List (Option Meaning)). AreKnown entries l) (group-members entries d group is) (members-known entries (entry_of d)) in
    let join : may_join entries standing (senses_of_members entries d.container group.members) ≡ (list_all (can_be_member entries) ms && (not (has_repeat ms) && not (list_any (λ other. have_one_in_common ms (meanings_of_members entries other)) before))) =
    ap (may_join entries standing) (senses-kept entries d.container group.members)
    ∙ join-known entries ms (flat_map (meanings_of_members entries) before) standing known (all-known entries before) are
    ∙ ap (λ b. list_all (can_be_member entries) ms && (not (has_repeat ms) && not b)) (common-before entries before ms) in
    let size : length group.members ≡ length ms = sym (length-map group.members (λ (member : DraftReference). meaning_of_event entries d.container member.name)) in
    ap (λ n. ((nat_le MIN_MEMBERS n && nat_le n MAX_MEMBERS) && has_levels group.model (length group.members) group.factors) && may_join entries standing (senses_of_members entries d.container group.members)) size
    ∙ ap (λ b. ((nat_le MIN_MEMBERS (length ms) && nat_le (length ms) MAX_MEMBERS) && has_levels group.model (length group.members) group.factors) && b) join
    ∙ group-tests (nat_le MIN_MEMBERS (length ms) && nat_le (length ms) MAX_MEMBERS) (has_levels group.model (length group.members) group.factors) (list_all (can_be_member entries) ms) (not (has_repeat ms)) (not (list_any (λ other. have_one_in_common ms (meanings_of_members entries other)) before))
    ∙ sym (allowed-is entries before d group is)

-- ---- what is a group

-- what has the body of a group is one
group-kind : (k : DefinitionKind) (group : DraftGroup) → has_body k (body.Group group) ≡ true → same_family (family_of k) groups ≡ true
group-kind kind.FaultTree group h = absurd (false≢true h)
group-kind kind.Gate group h = absurd (false≢true h)
group-kind kind.BasicEvent group h = absurd (false≢true h)
group-kind kind.HouseEvent group h = absurd (false≢true h)
group-kind kind.Parameter group h = absurd (false≢true h)
group-kind kind.Group group h = refl
group-kind kind.InitiatingEvent group h = absurd (false≢true h)
group-kind kind.EventTree group h = absurd (false≢true h)
group-kind kind.FunctionalEvent group h = absurd (false≢true h)
group-kind kind.Sequence group h = absurd (false≢true h)
group-kind kind.Branch group h = absurd (false≢true h)
group-kind kind.Rule group h = absurd (false≢true h)
group-kind kind.Component group h = absurd (false≢true h)

-- a group is bad exactly where it may not stand
pub group-bad : (entries before : Entries) (standing : List Sense) (d : DraftDefinition) (group : DraftGroup) → d.body ≡ body.Group group → has_body d.kind d.body ≡ true → AreMembersOf entries before standing → not (may_stand entries standing d.container group) ≡ is_bad_group entries before (entry_of d)
group-bad entries before standing d group is has are =
    ap not (stands-allowed entries before standing d group is are)
    ∙ ap (λ b. b && not (is_allowed_group entries before (entry_of d))) (sym (group-kind d.kind group (ap (has_body d.kind) (sym is) ∙ has)))

-- the members of a group are added
pub group-added : (entries before : Entries) (old new : List Sense) (d : DraftDefinition) (group : DraftGroup) → d.body ≡ body.Group group → map Some new ≡ map Some old ++ senses_of_members entries d.container group.members → AreMembersOf entries before old → AreMembersOf entries (before ++ entry_of d ∷ []) new
group-added entries before old new d group is added are =
    let f : Option Meaning → Option Sense = sense_of entries in
    added ∙ ap (λ (l : List (Option Sense)). l ++ senses_of_members entries d.container group.members) are
    ∙ ap (λ (l : List (Option Sense)). map f (flat_map (meanings_of_members entries) before) ++ l) (senses-kept entries d.container group.members ∙ ap (map f) (sym (group-members entries d group is)))
    ∙ sym (map-append f (flat_map (meanings_of_members entries) before) (meanings_of_members entries (entry_of d)))
    ∙ ap (map f) (sym (flat-one (meanings_of_members entries) before (entry_of d)))

-- ---- the first fault

-- where a definition stands
abbrev entry_position : Entry → Position
entry_position one = position_of one.definition

-- the fault of a group
abbrev bad_at : ℕ × Entry → PlacedFault
bad_at one = fault_of BadGroup one.1

-- a fault, if there is one, does not stand before this position
abbrev IsBehind : Position → Option PlacedFault → Type 0
IsBehind one None = Unit {0}
IsBehind one (Some other) = stands_before other.position one ≡ false

-- the earlier of a fault and a later one does not stand before
behind-earlier : (one : Position) (x : PlacedFault) (later : Option PlacedFault) → stands_before x.position one ≡ false → IsBehind one later → IsBehind one (earlier x later)
behind-earlier one x None here rest = here
behind-earlier one x (Some y) here rest = by (stands_before y.position x.position)
  where
    by : (b : Bool) → IsBehind one (if b then Some y else Some x)
    by true = rest
    by false = here

-- nor does the earliest of all
behind-all : (test : ℕ × Entry → Bool) (n : ℕ) (xs : Entries) (one : Position) → ((k : ℕ) (y : Entry) → slice_get xs k ≡ Some y → stands_before (entry_position y) one ≡ false) → IsBehind one (earliest (map bad_at (filter test (enumerate_from n xs))))
behind-all test n [] one behind = tt
behind-all test n (x ∷ xs) one behind = by (test (n, x)) refl (behind-all test (n + 1) xs one (λ k y at. behind (suc k) y at))
  where
    by : (b : Bool) → test (n, x) ≡ b → IsBehind one (earliest (map bad_at (filter test (enumerate_from (n + 1) xs)))) → IsBehind one (earliest (map bad_at (filter test (enumerate_from n (x ∷ xs)))))
    by true e rest = rw e (behind-earlier one (bad_at (n, x)) (earliest (map bad_at (filter test (enumerate_from (n + 1) xs)))) (behind 0 x refl) rest)
    by false e rest = rw e rest

-- a fault before which none stands is the earliest
earlier-behind : (x : PlacedFault) (later : Option PlacedFault) → IsBehind x.position later → earlier x later ≡ Some x
earlier-behind x None behind = refl
earlier-behind x (Some y) behind = ap (λ b. if b then Some y else Some x) behind

-- what is there is the same
some-same : (x y : Entry) → Some x ≡ Some y → x ≡ y
some-same x y h = cc

-- what ascends, ascends without its first
ascending-more : (one : Position) (others : List Position) → are_ascending (one ∷ others) ≡ true → are_ascending others ≡ true
ascending-more one [] h = refl
ascending-more one (other ∷ more) h = (and_parts (stands_before one other) (are_ascending (other ∷ more)) h).1

-- of ascending definitions the fault of the first that fails stands first
first-bad : (test : ℕ × Entry → Bool) (n : ℕ) (xs : Entries) (i : ℕ) (x : Entry) → are_ascending (map entry_position xs) ≡ true → slice_get xs i ≡ Some x → ((k : ℕ) (y : Entry) → k < i → slice_get xs k ≡ Some y → test (n + k, y) ≡ false) → test (n + i, x) ≡ true → earliest (map bad_at (filter test (enumerate_from n xs))) ≡ Some (fault_of BadGroup x)
first-bad test n [] i x up at passed fails = absurd (cc)
first-bad test n (y ∷ xs) zero x up at passed fails =
    let same = some-same y x at in
    let here : n + 0 ≡ n = omega arith in
    let first : test (n, y) ≡ true = ap (λ (e : Entry). test (n, e)) same ∙ ap (λ m. test (m, x)) (sym here) ∙ fails in
    rw first
    (earlier-behind (bad_at (n, y)) (earliest (map bad_at (filter test (enumerate_from (n + 1) xs))))
    (behind-all test (n + 1) xs (entry_position y) (λ k z there. before-not-back (entry_position y) (entry_position z) (first-before entry_position y xs up k z there)))
    ∙ ap (λ (e : Entry). Some (fault_of BadGroup e)) same)
first-bad test n (y ∷ xs) (suc i) x up at passed fails =
    let here : n + 0 ≡ n = omega arith in
    let first : test (n, y) ≡ false = ap (λ m. test (m, y)) (sym here) ∙ passed 0 y (omega arith) refl in
    let next : (k : ℕ) → n + 1 + k ≡ n + suc k = λ k. omega arith in
    rw first
    (first-bad test (n + 1) xs i x (ascending-more (entry_position y) (map entry_position xs) up) at
    (λ k z low there. ap (λ m. test (m, z)) (next k) ∙ passed (suc k) z (omega (arith, low)) there)
    (ap (λ m. test (m, x)) (next i) ∙ fails))

-- where none fails there is no fault
none-bad : (test : ℕ × Entry → Bool) (n : ℕ) (xs : Entries) → ((k : ℕ) (y : Entry) → slice_get xs k ≡ Some y → test (n + k, y) ≡ false) → earliest (map bad_at (filter test (enumerate_from n xs))) ≡ None
none-bad test n [] passed = refl
none-bad test n (y ∷ xs) passed =
    let here : n + 0 ≡ n = omega arith in
    let first : test (n, y) ≡ false = ap (λ m. test (m, y)) (sym here) ∙ passed 0 y refl in
    let next : (k : ℕ) → n + 1 + k ≡ n + suc k = λ k. omega arith in
    rw first (none-bad test (n + 1) xs (λ k z there. ap (λ m. test (m, z)) (next k) ∙ passed (suc k) z there))

-- no group among the first so many is bad
abbrev pub ArePassed : Entries → ℕ → Type 0
ArePassed entries place =
    (k : ℕ) (one : Entry) → k < place → slice_get entries k ≡ Some one → is_bad_group entries (take k entries) one ≡ false

-- one definition more is passed
pub passed-one : (entries : Entries) (place : ℕ) (one : Entry) → slice_get entries place ≡ Some one → is_bad_group entries (take place entries) one ≡ false → ArePassed entries place → ArePassed entries (place + 1)
passed-one entries place one at good before k y low there =
    elim (cases_lt k place) [
      | inl less ↦ before k y less there
      | inr past ↦ (let same : k ≡ place = omega (arith, low, past) in
          let its : y ≡ one = some-same y one (sym there ∙ ap (slice_get entries) same ∙ at) in
          ap (λ n. is_bad_group entries (take n entries) y) same ∙ ap (is_bad_group entries (take place entries)) its ∙ good)
    ]

-- counted from zero
from-zero : (k : ℕ) → 0 + k ≡ k
from-zero k = omega arith

-- the first group that is bad is the earliest
pub bad-first : (entries : Entries) (place : ℕ) (one : Entry) → are_ascending (map (λ (e : Entry). position_of e.definition) entries) ≡ true → slice_get entries place ≡ Some one → is_bad_group entries (take place entries) one ≡ true → ArePassed entries place → earliest (bad_groups entries) ≡ Some (fault_of BadGroup one)
bad-first entries place one up at bad before =
    first-bad (λ (x : ℕ × Entry). is_bad_group entries (take x.0 entries) x.1) 0 entries place one up at
    (λ k y low there. ap (λ n. is_bad_group entries (take n entries) y) (from-zero k) ∙ before k y low there)
    (ap (λ n. is_bad_group entries (take n entries) one) (from-zero place) ∙ bad)

-- where all are passed no group is bad
pub bad-none : (entries : Entries) (place : ℕ) → length entries ≤ place → ArePassed entries place → earliest (bad_groups entries) ≡ None
bad-none entries place all before =
    none-bad (λ (x : ℕ × Entry). is_bad_group entries (take x.0 entries) x.1) 0 entries
    (λ k y at. ap (λ n. is_bad_group entries (take n entries) y) (from-zero k)
    ∙ before k y (let low = slice_get_within entries k y at in omega (arith, low, all)) at)

-- the positions of entries are those of their definitions
pub entries-ascend : (ds : List DraftDefinition) → are_ascending (map position_of ds) ≡ true → are_ascending (map (λ (e : Entry). position_of e.definition) (map entry_of ds)) ≡ true
entries-ascend ds up = ap are_ascending (same ds) ∙ up
  where
    same : (ds : List DraftDefinition) → map (λ (e : Entry). position_of e.definition) (map entry_of ds) ≡ map position_of ds
    same [] = refl
    same (d ∷ ds) = ap (λ (l : List Position). position_of d ∷ l) (same ds)

-- ---- answers

-- what follows of an answer Ok
pub if-ok : {A E : Type 0} (r : Result A E) (P Q : A → Type 0) → ((x : A) → P x → Q x) → IfOk r P → IfOk r Q
if-ok (Ok x) P Q more h = more x h
if-ok (Err e) P Q more h = tt

-- no fault is kept where there is none
pub none-first : (first : Option Placed) → option_map placed_fault first ≡ None → first ≡ None
none-first None h = refl
none-first (Some x) h = absurd (cc)
