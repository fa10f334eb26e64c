-- What the numbers say of what a sense means.
use Rattle.std.proofs.Common.{◌≡◌, ◌<◌, ◌≤◌, ◌+◌, ℕ, zero, suc, Bool, true, false, List, [], ◌∷◌, ◌++◌, Option, Some, None, map, length, refl, ap, sym, ◌∙◌, subst, inl, inr, arith, cond, eqb, if◌then◌else◌}
use Rattle.std.proofs.lemmas.Bool.{le-ltb, lt-ltb, or_parts, or_from, cases_Bool, eqb-true, false_from_ne_true, false≢true}
use Rattle.std.specs.List.{slice_get, enumerate_from, filter, flat_map, list_any, position, position_or_len}
use Rattle.std.specs.Option.{unwrap_or, option_map}
use Rattle.psa_model.specs.PathNames.{Text}
use Rattle.psa_model.specs.declared.draft.DefinitionKind.{DefinitionKind}
use Rattle.psa_model.specs.declared.draft.DefinitionKind.TheVariants as kind
use Rattle.psa_model.specs.declared.formula.Formula.{Formula}
use Rattle.psa_model.specs.declared.formula.Formula.TheVariants as formula
use Rattle.psa_names.specs.declared.found.Sense.TheVariants.{OfGroup}
use Rattle.psa_names.specs.Outlines.{Entry, Entries}
use Rattle.psa_names.specs.Meanings.{Meaning, definition, of_group, defined_by_group}
use Rattle.psa_names.specs.GroupRules.{same_meaning}
use Rattle.psa_names.specs.Found.{meaning_of_sense, defined_by_groups}
use Rattle.psa_names.specs.Ids.{kind_number, is_kind, all_of_kind, id_of, basics_at, all_basics, basic_id}
use Rattle.psa_names.specs.Resolved.{event_formula}
use Rattle.psa_bodies.specs.declared.numbers.Numbered.{Numbered}
use Rattle.psa_bodies.specs.declared.numbers.Numbers.{Numbers}
use Rattle.psa_bodies.specs.Numbering.{AreNumbers, IsEntryAt, numbered}

-- ---- an element of a list with places

pub get-placed : {X A : Type 0} (f : ℕ × X → A) (n k j : ℕ) (xs : List X) → n + k ≡ j → slice_get (map f (enumerate_from n xs)) k ≡ option_map (λ x. f (j, x)) (slice_get xs k)
get-placed f n k j [] is = refl
get-placed f n zero j (x ∷ xs) is = let same : n ≡ j = omega (arith, is) in ap (λ m. Some (f (m, x))) same
get-placed f n (suc k) j (x ∷ xs) is = get-placed f (n + 1) k j xs (omega (arith, is))

pub get-map : {X A : Type 0} (f : X → A) (xs : List X) (k : ℕ) → slice_get (map f xs) k ≡ option_map f (slice_get xs k)
get-map f [] k = refl
get-map f (x ∷ xs) zero = refl
get-map f (x ∷ xs) (suc k) = get-map f xs k

numbered-of : (entries : Entries) (place : ℕ) (its : Numbered) (found : Option Entry) → slice_get entries place ≡ found → Some its ≡ option_map (λ one. numbered entries (place, one)) found → IsEntryAt entries place its
numbered-of entries place its None found is = absurd (let h : Some its ≡ None = is in cc)
numbered-of entries place its (Some one) found is = record { one = one; found = found; is = let h : Some its ≡ Some (numbered entries (place, one)) = is in cc }

pub entry-at : (entries : Entries) (numbers : Numbers) (place : ℕ) (its : Numbered) → AreNumbers entries numbers → Some its ≡ slice_get numbers.definitions place → IsEntryAt entries place its
entry-at entries numbers place its are found =
    numbered-of entries place its (slice_get entries place) refl
    (found ∙ ap (λ ds. slice_get ds place) are.definitions ∙ get-placed (numbered entries) 0 place place entries (omega arith))

none-of : {A : Type 0} (f : Entry → A) (found : Option Entry) → None ≡ option_map f found → found ≡ None
none-of f None is = refl
none-of f (Some one) is = absurd (let h : None ≡ Some (f one) = is in cc)

pub no-entry-at : (entries : Entries) (numbers : Numbers) (place : ℕ) → AreNumbers entries numbers → None ≡ slice_get numbers.definitions place → slice_get entries place ≡ None
no-entry-at entries numbers place are missing =
    none-of (λ one. numbered entries (place, one)) (slice_get entries place)
    (missing ∙ ap (λ ds. slice_get ds place) are.definitions ∙ get-placed (numbered entries) 0 place place entries (omega arith))

-- ---- positions

pub position-none : {X : Type 0} (p : X → Bool) (xs : List X) → list_any p xs ≡ false → position p xs ≡ None
position-none p xs none = ap (λ b. cond b (Some (position_or_len p xs)) None) (le-ltb (position_or_len p xs) (length xs) (past p xs none))
  where
    past : {X : Type 0} (p : X → Bool) (xs : List X) → list_any p xs ≡ false → length xs ≤ position_or_len p xs
    past p [] none = omega arith
    past p (x ∷ xs) none =
        let both = or_parts (p x) (list_any p xs) none in
        let rest : length xs ≤ position_or_len p xs = past p xs both.1 in
        rw both.0 (omega (arith, rest))

pub position-at : {X : Type 0} (p : X → Bool) (ps : List X) (x : X) (qs : List X) → list_any p ps ≡ false → p x ≡ true → position p (ps ++ x ∷ qs) ≡ Some (length ps)
position-at p ps x qs none is =
    let here = at p ps x qs none is in
    rw here (ap (λ b. cond b (Some (length ps)) None) (lt-ltb (length ps) (length (ps ++ x ∷ qs)) (shorter ps x qs)))
  where
    at : {X : Type 0} (p : X → Bool) (ps : List X) (x : X) (qs : List X) → list_any p ps ≡ false → p x ≡ true → position_or_len p (ps ++ x ∷ qs) ≡ length ps
    at p [] x qs none is = rw is refl
    at p (y ∷ ys) x qs none is =
        let both = or_parts (p y) (list_any p ys) none in
        let h : position_or_len p (ys ++ x ∷ qs) ≡ length ys = at p ys x qs both.1 is in
        rw both.0 (omega (arith, h))

    shorter : {X : Type 0} (ps : List X) (x : X) (qs : List X) → length ps < length (ps ++ x ∷ qs)
    shorter [] x qs = omega arith
    shorter (y ∷ ys) x qs = let h = shorter ys x qs in omega (arith, h)

pub any-append : {X : Type 0} (p : X → Bool) (xs ys : List X) → list_any p xs ≡ false → list_any p ys ≡ false → list_any p (xs ++ ys) ≡ false
any-append p [] ys first second = second
any-append p (x ∷ xs) ys first second =
    let both = or_parts (p x) (list_any p xs) first in or_from (p x) (list_any p (xs ++ ys)) both.0 (any-append p xs ys both.1 second)

-- ---- a definition of another kind has isnt place among those of a kind

abbrev pub IsOther : DefinitionKind → Entries → ℕ → ℕ → Type 0
IsOther its xs n place = (k : ℕ) (one : Entry) → n + k ≡ place → slice_get xs k ≡ Some one → is_kind its one ≡ false

other-rest : (its : DefinitionKind) (x : Entry) (xs : Entries) (n place : ℕ) → IsOther its (x ∷ xs) n place → IsOther its xs (n + 1) place
other-rest its x xs n place other k one is found = other (suc k) one (omega (arith, is)) found

not-here : (its : DefinitionKind) (x : Entry) (xs : Entries) (n place : ℕ) → is_kind its x ≡ true → IsOther its (x ∷ xs) n place → eqb n place ≡ false
not-here its x xs n place is other =
    false_from_ne_true (eqb n place) (λ same. false≢true (sym (other 0 x (omega (arith, eqb-true n place same)) refl) ∙ is))

pub not-among : (its : DefinitionKind) (xs : Entries) (n place : ℕ) → IsOther its xs n place → list_any (λ (one : ℕ × Entry). eqb one.0 place) (filter (λ (one : ℕ × Entry). is_kind its one.1) (enumerate_from n xs)) ≡ false
not-among its [] n place other = refl
not-among its (x ∷ xs) n place other =
    elim (cases_Bool (is_kind its x)) [
      | inl is ↦ rw is (or_from (eqb n place) _ (not-here its x xs n place is other) (not-among its xs (n + 1) place (other-rest its x xs n place other)))
      | inr isnt ↦ rw isnt (not-among its xs (n + 1) place (other-rest its x xs n place other))
    ]

pub id-other : (its : DefinitionKind) (entries : Entries) (place : ℕ) → IsOther its entries 0 place → id_of its entries place ≡ 0
id-other its entries place other =
    ap (λ o. unwrap_or o 0) (position-none (λ (one : ℕ × Entry). eqb one.0 place) (all_of_kind its entries) (not-among its entries 0 place other))

-- ---- nor among the basic events

no-group-event : (place : ℕ) (names : List Text) → list_any (λ one. same_meaning (Some one) (Some (definition place))) (map of_group names) ≡ false
no-group-event place [] = refl
no-group-event place (name ∷ names) = no-group-event place names

not-basic-here : (all : Entries) (n place : ℕ) (x : Entry) (xs : Entries) → IsOther kind.BasicEvent (x ∷ xs) n place → list_any (λ one. same_meaning (Some one) (Some (definition place))) (basics_at all (n, x)) ≡ false
not-basic-here all n place x xs other =
    elim (cases_Bool (is_kind kind.BasicEvent x)) [
      | inl is ↦ rw is (or_from (eqb n place) false (not-here kind.BasicEvent x xs n place is other) refl)
      | inr isnt ↦ rw isnt (elim (cases_Bool (is_kind kind.Group x)) [
        | inl group ↦ rw group (no-group-event place (defined_by_group all x))
        | inr none ↦ rw none refl
      ])
    ]

pub not-among-basics : (all : Entries) (xs : Entries) (n place : ℕ) → IsOther kind.BasicEvent xs n place → list_any (λ one. same_meaning (Some one) (Some (definition place))) (flat_map (basics_at all) (enumerate_from n xs)) ≡ false
not-among-basics all [] n place other = refl
not-among-basics all (x ∷ xs) n place other =
    any-append (λ one. same_meaning (Some one) (Some (definition place))) (basics_at all (n, x)) (flat_map (basics_at all) (enumerate_from (n + 1) xs))
    (not-basic-here all n place x xs other)
    (not-among-basics all xs (n + 1) place (other-rest kind.BasicEvent x xs n place other))

pub basic-other : (entries : Entries) (place : ℕ) → IsOther kind.BasicEvent entries 0 place → basic_id entries (definition place) ≡ 0
basic-other entries place other =
    ap (λ o. unwrap_or o 0) (position-none (λ one. same_meaning (Some one) (Some (definition place))) (all_basics entries) (not-among-basics entries entries 0 place other))

-- ---- by what was found at a place

pub other-found : (its : DefinitionKind) (entries : Entries) (place : ℕ) (one : Entry) → slice_get entries place ≡ Some one → is_kind its one ≡ false → IsOther its entries 0 place
other-found its entries place one found isnt k x is there =
    let same : k ≡ place = omega (arith, is) in
    let here : slice_get entries place ≡ Some x = subst (λ m. slice_get entries m ≡ Some x) same there in
    let equal : Some x ≡ Some one = sym here ∙ found in
    let e : x ≡ one = cc in
    subst (λ y. is_kind its y ≡ false) (sym e) isnt

pub other-missing : (its : DefinitionKind) (entries : Entries) (place : ℕ) → slice_get entries place ≡ None → IsOther its entries 0 place
other-missing its entries place missing k x is there =
    let same : k ≡ place = omega (arith, is) in
    let here : slice_get entries place ≡ Some x = subst (λ m. slice_get entries m ≡ Some x) same there in
    absurd (let e : None ≡ Some x = sym missing ∙ here in cc)

-- ---- the id of a definition

pub kinds-same : (one other : DefinitionKind) → eqb (kind_number one) (kind_number other) ≡ true → one ≡ other
kinds-same kind.FaultTree kind.FaultTree is = refl
kinds-same kind.Gate kind.Gate is = refl
kinds-same kind.BasicEvent kind.BasicEvent is = refl
kinds-same kind.HouseEvent kind.HouseEvent is = refl
kinds-same kind.Parameter kind.Parameter is = refl
kinds-same kind.Group kind.Group is = refl
kinds-same kind.InitiatingEvent kind.InitiatingEvent is = refl
kinds-same kind.EventTree kind.EventTree is = refl
kinds-same kind.FunctionalEvent kind.FunctionalEvent is = refl
kinds-same kind.Sequence kind.Sequence is = refl
kinds-same kind.Branch kind.Branch is = refl
kinds-same kind.Rule kind.Rule is = refl
kinds-same kind.Component kind.Component is = refl
kinds-same _ _ is = absurd (false≢true is)

-- of a kind other than that of basic events
pub id-found : (entries : Entries) (place : ℕ) (its : DefinitionKind) (n : Numbered) → eqb (kind_number its) 2 ≡ false → eqb (kind_number n.kind) (kind_number its) ≡ true → IsEntryAt entries place n → n.id ≡ id_of its entries place
id-found entries place its n other is at =
    let k : at.one.kind ≡ its = kinds-same at.one.kind its (subst (λ m. eqb (kind_number m.kind) (kind_number its) ≡ true) at.is is) in
    let isnt : is_kind kind.BasicEvent at.one ≡ false = subst (λ i. eqb (kind_number i) 2 ≡ false) (sym k) other in
    ap (λ m. m.id) at.is
    ∙ ap (λ b. cond b (basic_id entries (definition place)) (id_of at.one.kind entries place)) isnt
    ∙ ap (λ i. id_of i entries place) k

pub id-of-other : (entries : Entries) (place : ℕ) (its : DefinitionKind) (n : Numbered) → eqb (kind_number n.kind) (kind_number its) ≡ false → IsEntryAt entries place n → 0 ≡ id_of its entries place
id-of-other entries place its n is at =
    sym (id-other its entries place (other-found its entries place at.one at.found (subst (λ m. eqb (kind_number m.kind) (kind_number its) ≡ false) at.is is)))

pub id-missing : (entries : Entries) (place : ℕ) (its : DefinitionKind) → slice_get entries place ≡ None → 0 ≡ id_of its entries place
id-missing entries place its missing = sym (id-other its entries place (other-missing its entries place missing))

-- ---- the id of a basic event

pub basic-at : (entries : Entries) (place : ℕ) (n : Numbered) → IsEntryAt entries place n → (if eqb (kind_number n.kind) 2 then n.id else 0) ≡ basic_id entries (definition place)
basic-at entries place n at =
    elim (cases_Bool (eqb (kind_number n.kind) 2)) [
      | inl is ↦ rw is (ap (λ m. m.id) at.is ∙ ap (λ b. cond b (basic_id entries (definition place)) (id_of at.one.kind entries place)) (subst (λ m. eqb (kind_number m.kind) 2 ≡ true) at.is is))
      | inr isnt ↦ rw isnt (sym (basic-other entries place (other-found kind.BasicEvent entries place at.one at.found (subst (λ m. eqb (kind_number m.kind) 2 ≡ false) at.is isnt))))
    ]

pub basic-missing : (entries : Entries) (place : ℕ) → slice_get entries place ≡ None → 0 ≡ basic_id entries (definition place)
basic-missing entries place missing = sym (basic-other entries place (other-missing kind.BasicEvent entries place missing))

-- of a basic event that a group defines
pub basic-of-group : (entries : Entries) (numbers : Numbers) (number : ℕ) (found : Option ℕ) → AreNumbers entries numbers → found ≡ slice_get numbers.of_groups number → found ≡ option_map (basic_id entries) (meaning_of_sense entries (OfGroup number))
basic-of-group entries numbers number found are is =
    is ∙ ap (λ ids. slice_get ids number) are.of_groups
    ∙ get-map (λ name. basic_id entries (of_group name)) (defined_by_groups entries) number
    ∙ twice (slice_get (defined_by_groups entries) number)
  where
    twice : (name : Option Text) → option_map (λ its. basic_id entries (of_group its)) name ≡ option_map (basic_id entries) (option_map of_group name)
    twice None = refl
    twice (Some its) = refl

-- ---- the formula that is one event

abbrev pub formula_of_id : Option ℕ → Formula
formula_of_id None = formula.Constant false
formula_of_id (Some id) = formula.Basic (record { 0 = id })

pub event-of-group : (entries : Entries) (meaning : Option Meaning) (number : ℕ) (id : Option ℕ) → meaning ≡ meaning_of_sense entries (OfGroup number) → id ≡ option_map (basic_id entries) meaning → formula_of_id id ≡ event_formula entries meaning
event-of-group entries meaning number id means is = ap formula_of_id is ∙ by (slice_get (defined_by_groups entries) number) meaning means
  where
    by : (name : Option Text) (m : Option Meaning) → m ≡ option_map of_group name → formula_of_id (option_map (basic_id entries) m) ≡ event_formula entries m
    by None m e = rw e refl
    by (Some its) m e = rw e refl

pub event-missing : (entries : Entries) (place : ℕ) → slice_get entries place ≡ None → formula.Constant false ≡ event_formula entries (Some (definition place))
event-missing entries place missing = rw missing refl

pub event-gate : (entries : Entries) (place : ℕ) (n : Numbered) → IsEntryAt entries place n → eqb (kind_number n.kind) 1 ≡ true → formula.Gate (record { 0 = n.id }) ≡ event_formula entries (Some (definition place))
event-gate entries place n at is =
    let gate : is_kind kind.Gate at.one ≡ true = subst (λ m. eqb (kind_number m.kind) 1 ≡ true) at.is is in
    rw (at.found, gate) (ap (λ i. formula.Gate (record { 0 = i })) (id-found entries place kind.Gate n refl is at))

pub event-house : (entries : Entries) (place : ℕ) (n : Numbered) → IsEntryAt entries place n → eqb (kind_number n.kind) 1 ≡ false → eqb (kind_number n.kind) 3 ≡ true → formula.House (record { 0 = n.id }) ≡ event_formula entries (Some (definition place))
event-house entries place n at isnt is =
    let gate : is_kind kind.Gate at.one ≡ false = subst (λ m. eqb (kind_number m.kind) 1 ≡ false) at.is isnt in
    let house : is_kind kind.HouseEvent at.one ≡ true = subst (λ m. eqb (kind_number m.kind) 3 ≡ true) at.is is in
    rw (at.found, gate, house) (ap (λ i. formula.House (record { 0 = i })) (id-found entries place kind.HouseEvent n refl is at))

pub event-basic : (entries : Entries) (place : ℕ) (n : Numbered) (id : ℕ) → IsEntryAt entries place n → eqb (kind_number n.kind) 1 ≡ false → eqb (kind_number n.kind) 3 ≡ false → id ≡ (if eqb (kind_number n.kind) 2 then n.id else 0) → formula.Basic (record { 0 = id }) ≡ event_formula entries (Some (definition place))
event-basic entries place n id at isnt none is =
    let gate : is_kind kind.Gate at.one ≡ false = subst (λ m. eqb (kind_number m.kind) 1 ≡ false) at.is isnt in
    let house : is_kind kind.HouseEvent at.one ≡ false = subst (λ m. eqb (kind_number m.kind) 3 ≡ false) at.is none in
    rw (at.found, gate, house) (ap (λ i. formula.Basic (record { 0 = i })) (is ∙ basic-at entries place n at))
