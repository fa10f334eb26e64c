-- What a reference of a draft without a fault of names stands for, and where it leads.
use Rattle.std.proofs.Common.{◌≡◌, ◌⊎◌, inl, inr, ◌==◌, ℕ, Bool, true, false, not, List, [], ◌∷◌, Option, Some, None, map, refl, ap, ◌∙◌, subst}
use Rattle.std.proofs.lemmas.Bool.{false≢true, cases_Bool, and_parts}
use Rattle.std.proofs.lemmas.Option.{none-some}
use Rattle.std.specs.Prelude.{is_none, option_map, ◌&&◌, if◌then◌else◌}
use Rattle.std.specs.List.{slice_get, position}
use Rattle.std.specs.Option.{option_and_then, option_map_or, option_or}
use Rattle.psa_model.specs.PathNames.{Text, is_path}
use Rattle.psa_model.specs.declared.draft.DefinitionKind.{DefinitionKind}
use Rattle.psa_model.specs.declared.draft.DraftReference.{DraftReference}
use Rattle.psa_model.specs.declared.draft.EventKind.TheVariants as asked
use Rattle.psa_model.specs.declared.draft.DefinitionKind.TheVariants as kind
use Rattle.psa_model.specs.declared.fault.FaultKind.TheVariants as fault
use Rattle.psa_model.specs.Drafts.{same_texts}
use Rattle.psa_names.specs.Outlines.{ReferenceKind, Entry, Entries, event, parameter, event_tree, rule, sequence, branch, functional_event, initiating_event}
use Rattle.psa_names.specs.NameSpaces.{Family, is_in_family, events, parameters, event_trees, rules, sequences, branches, functional_events, initiating_events}
use Rattle.psa_names.specs.Meanings.{Meaning, definition, of_group, meaning_of, meaning_of_event, definition_named, by_scope, one_directly_in, first_some, outwards, public_one, in_whole_model, is_defined_by_group, scope_of, has_name}
use Rattle.psa_names.specs.Chains.{is_chained, followed, chained_place, passes_on}
use Rattle.psa_names.specs.NameFaults.{reference_fault, has_kind}
use Rattle.psa_names.specs.Ids.{kind_number, is_kind, all_of_kind, id_of_meaning, referred_id}
use Rattle.psa_names.proofs.ListPlaces.{Has, has-later, from-map}
use Rattle.psa_names.proofs.FirstPlaces.{position-at}
use Rattle.psa_checks.proofs.KindForms.{is-parameter, is-event-tree, is-initiating, is-functional, is-sequence, is-branch, is-rule, is-house}
use Rattle.psa_checks.proofs.Definitions.{stands, made-at}

-- ---- the search

position-family : (entries : Entries) (family : Family) (rest : Entry → Bool) (place : ℕ)
    → position (λ one. is_in_family family one && rest one) entries ≡ Some place
    → (one : Entry) × (slice_get entries place ≡ Some one) × (is_in_family family one ≡ true)
position-family entries family rest place h =
    let r = position-at (λ one. is_in_family family one && rest one) entries place h in
    (r.0, r.1, (and_parts (is_in_family family r.0) (rest r.0) r.2).0)

position-both : (entries : Entries) (family : Family) (more rest : Entry → Bool) (place : ℕ)
    → position (λ one. is_in_family family one && more one && rest one) entries ≡ Some place
    → (one : Entry) × (slice_get entries place ≡ Some one) × (is_in_family family one ≡ true)
position-both entries family more rest place h =
    let r = position-at (λ one. is_in_family family one && more one && rest one) entries place h in (
      r.0,
      r.1,
      (and_parts (is_in_family family r.0) (more r.0)
          (and_parts (is_in_family family r.0 && more r.0) (rest r.0) r.2).0).0,
    )

or-cases : {A : Type 0} (one other : Option A) (x : A) → option_or one other ≡ Some x
    → (one ≡ Some x) ⊎ (other ≡ Some x)
or-cases None other x h = inr h
or-cases (Some y) other x h = inl h

first-some : {A : Type 0} (all : List (Option A)) (x : A) → first_some all ≡ Some x → Has all (Some x)
first-some [] x h = absurd (none-some x h)
first-some (one ∷ others) x h = elim (or-cases one (first_some others) x h) [
  | inl here ↦ (0, ap Some here)
  | inr later ↦ has-later one (Some x) others (first-some others x later)
]

directly-at : (entries : Entries) (family : Family) (around : List Text) (name : Text) (place : ℕ)
    → one_directly_in entries family around name ≡ Some place
    → (one : Entry) × (slice_get entries place ≡ Some one) × (is_in_family family one ≡ true)
directly-at entries family around name place h =
    position-both entries family (λ one. same_texts one.container around) (has_name name) place h

whole-at : (entries : Entries) (family : Family) (name : Text) (place : ℕ)
    → in_whole_model entries family name ≡ Some place
    → (one : Entry) × (slice_get entries place ≡ Some one) × (is_in_family family one ≡ true)
whole-at entries family name place h = position-family entries family _ place h

public-at : (entries : Entries) (family : Family) (name : Text) (place : ℕ)
    → public_one entries family name ≡ Some place
    → (one : Entry) × (slice_get entries place ≡ Some one) × (is_in_family family one ≡ true)
public-at entries family name place h =
    position-both entries family (λ one. not one.private) (has_name name) place h

scope-at : (entries : Entries) (family : Family) (container : List Text) (name : Text) (place : ℕ)
    → by_scope entries family container name ≡ Some place
    → (one : Entry) × (slice_get entries place ≡ Some one) × (is_in_family family one ≡ true)
scope-at entries family container name place h =
    elim (or-cases (first_some (map (λ around. one_directly_in entries family around name) (outwards container)))
    (public_one entries family name) place h) [
      | inl inner ↦
          let r = from-map (λ around. one_directly_in entries family around name) (outwards container) (Some place)
          (first-some _ place inner) in
          directly-at entries family r.0 name place r.2
      | inr outer ↦ public-at entries family name place outer
    ]

-- the search finds a definition of the family
pub named-at : (entries : Entries) (family : Family) (container : List Text) (name : Text) (place : ℕ)
    → definition_named entries family container name ≡ Some place
    → (one : Entry) × (slice_get entries place ≡ Some one) × (is_in_family family one ≡ true)
named-at entries family container name place h = elim (cases_Bool (is_path name)) [
  | inl path ↦ directly-at entries family _ _ place (rw path at h)
  | inr plain ↦ scope-at entries family container name place (rw plain at h)
]

-- ---- what a reference means

-- a name in a definition stands for a definition of a kind
pub record Meant (entries : Entries) (from : Entry) (its : DefinitionKind) (sought : ReferenceKind)
    (name : DraftReference) : Type 0 where
  pub place : ℕ
  pub one : Entry
  pub meaning : meaning_of entries from (record { kind = sought; written = name }) ≡ Some (definition place)
  pub there : slice_get entries place ≡ Some one
  pub is : one.kind ≡ its

found : (entries : Entries) (family : Family) (sought : ReferenceKind) (o : Option ℕ)
    → ((place : ℕ) → o ≡ Some place
    → (one : Entry) × (slice_get entries place ≡ Some one) × (is_in_family family one ≡ true))
    → is_none (reference_fault entries sought (option_map definition o)) ≡ true
    → (place : ℕ) × (one : Entry) × (o ≡ Some place) × (slice_get entries place ≡ Some one)
    × (is_in_family family one ≡ true)
found entries family sought None at h = absurd (false≢true h)
found entries family sought (Some place) at h = let r = at place refl in (place, r.0, refl, r.1, r.2)

-- a reference to a parameter that stands
pub parameter-meant : (entries : Entries) (from : Entry) (name : DraftReference)
    → stands entries from (record { kind = parameter; written = name }) ≡ true
    → Meant entries from kind.Parameter parameter name
parameter-meant entries from name h =
    let r = found entries parameters parameter _ (named-at entries parameters (scope_of from) name.name) h in
    record {
      place = r.0;
      one = r.1;
      meaning = ap (option_map definition) r.2;
      there = r.3;
      is = is-parameter r.1.kind r.4;
    }

-- a reference to an event tree that stands
pub tree-meant : (entries : Entries) (from : Entry) (name : DraftReference)
    → stands entries from (record { kind = event_tree; written = name }) ≡ true
    → Meant entries from kind.EventTree event_tree name
tree-meant entries from name h =
    let r = found entries event_trees event_tree _ (whole-at entries event_trees name.name) h in
    record {
      place = r.0;
      one = r.1;
      meaning = ap (option_map definition) r.2;
      there = r.3;
      is = is-event-tree r.1.kind r.4;
    }

-- a reference to a rule that stands
pub rule-meant : (entries : Entries) (from : Entry) (name : DraftReference)
    → stands entries from (record { kind = rule; written = name }) ≡ true → Meant entries from kind.Rule rule name
rule-meant entries from name h =
    let r = found entries rules rule _ (whole-at entries rules name.name) h in
    record {
      place = r.0;
      one = r.1;
      meaning = ap (option_map definition) r.2;
      there = r.3;
      is = is-rule r.1.kind r.4;
    }

-- a reference to an initiating event that stands
pub initiating-meant : (entries : Entries) (from : Entry) (name : DraftReference)
    → stands entries from (record { kind = initiating_event; written = name }) ≡ true
    → Meant entries from kind.InitiatingEvent initiating_event name
initiating-meant entries from name h =
    let r = found entries initiating_events initiating_event _ (whole-at entries initiating_events name.name) h in
    record {
      place = r.0;
      one = r.1;
      meaning = ap (option_map definition) r.2;
      there = r.3;
      is = is-initiating r.1.kind r.4;
    }

-- a reference to a sequence that stands
pub sequence-meant : (entries : Entries) (from : Entry) (name : DraftReference)
    → stands entries from (record { kind = sequence; written = name }) ≡ true
    → Meant entries from kind.Sequence sequence name
sequence-meant entries from name h =
    let r = found entries sequences sequence _ (directly-at entries sequences _ name.name) h in
    record {
      place = r.0;
      one = r.1;
      meaning = ap (option_map definition) r.2;
      there = r.3;
      is = is-sequence r.1.kind r.4;
    }

-- a reference to a branch that stands
pub branch-meant : (entries : Entries) (from : Entry) (name : DraftReference)
    → stands entries from (record { kind = branch; written = name }) ≡ true
    → Meant entries from kind.Branch branch name
branch-meant entries from name h =
    let r = found entries branches branch _ (directly-at entries branches _ name.name) h in
    record {
      place = r.0;
      one = r.1;
      meaning = ap (option_map definition) r.2;
      there = r.3;
      is = is-branch r.1.kind r.4;
    }

-- a reference to a functional event that stands
pub functional-meant : (entries : Entries) (from : Entry) (name : DraftReference)
    → stands entries from (record { kind = functional_event; written = name }) ≡ true
    → Meant entries from kind.FunctionalEvent functional_event name
functional-meant entries from name h =
    let r = found entries functional_events functional_event _ (directly-at entries functional_events _ name.name)
    h in
    record {
      place = r.0;
      one = r.1;
      meaning = ap (option_map definition) r.2;
      there = r.3;
      is = is-functional r.1.kind r.4;
    }

-- ---- events

-- what stands for an event: a definition of one, or the basic event that a group defines
abbrev pub IsEvent : Entries → Meaning → Type 0
IsEvent entries (definition place) = (one : Entry) × (slice_get entries place ≡ Some one)
    × (is_in_family events one ≡ true)
IsEvent entries (of_group name) = is_defined_by_group entries name ≡ true

event-parts : (entries : Entries) (container : List Text) (name : Text) (o : Option ℕ) (m : Meaning)
    → ((place : ℕ) → o ≡ Some place
    → (one : Entry) × (slice_get entries place ≡ Some one) × (is_in_family events one ≡ true))
    → option_or (option_map definition o) (if not (is_path name) && is_defined_by_group entries name then Some
    (of_group name) else None) ≡ Some m → IsEvent entries m
event-parts entries container name (Some place) m at h = let same : definition place ≡ m =
    cc in subst (IsEvent entries) same (at place refl)
event-parts entries container name None m at h =
    elim (cases_Bool (not (is_path name) && is_defined_by_group entries name)) [
      | inl both ↦ let same : of_group name ≡ m = let k = rw both at h in cc in subst (IsEvent entries) same
          (and_parts (not (is_path name)) (is_defined_by_group entries name) both).1
      | inr neither ↦ absurd (none-some m (rw neither at h))
    ]

-- what an event stands for is a definition of one, or is defined by a group
pub event-at : (entries : Entries) (container : List Text) (name : Text) (m : Meaning)
    → meaning_of_event entries container name ≡ Some m → IsEvent entries m
event-at entries container name m h =
    event-parts entries container name (definition_named entries events container name) m
    (named-at entries events container name) h

house-parts : (entries : Entries) (o : Option Meaning)
    → is_none (reference_fault entries (event asked.House) o) ≡ true
    → (place : ℕ) × (one : Entry) × (o ≡ Some (definition place)) × (slice_get entries place ≡ Some one)
    × (one.kind ≡ kind.HouseEvent)
house-parts entries None h = absurd (false≢true h)
house-parts entries (Some (of_group name)) h = absurd (false≢true h)
house-parts entries (Some (definition place)) h = by_entry (slice_get entries place) refl h
  where
    by_entry : (found : Option Entry) → slice_get entries place ≡ found
        → is_none (if option_map_or (λ one. has_kind (event asked.House) one.kind)
        found false then None else Some fault.WrongKind) ≡ true
        → (p : ℕ) × (one : Entry) × (Some (definition place) ≡ Some (definition p)) × (slice_get entries p ≡ Some one)
        × (one.kind ≡ kind.HouseEvent)
    by_entry None at k = absurd (false≢true k)
    by_entry (Some one) at k = elim (cases_Bool (has_kind (event asked.House) one.kind)) [
      | inl right ↦ (place, one, refl, at, is-house one.kind right)
      | inr wrong ↦ absurd (false≢true (rw wrong at k))
    ]

-- a reference to a house event that stands
pub house-meant : (entries : Entries) (from : Entry) (name : DraftReference)
    → stands entries from (record { kind = event asked.House; written = name }) ≡ true
    → Meant entries from kind.HouseEvent (event asked.House) name
house-meant entries from name h =
    let r = house-parts entries (meaning_of_event entries (scope_of from) name.name) h in
    record { place = r.0; one = r.1; meaning = r.2; there = r.3; is = r.4 }

-- ---- where it leads

-- the element of what is meant, in a list that is made of the definitions of its kind
pub referred-at : {A : Type 0} (entries : Entries) (from : Entry) (its : DefinitionKind) (sought : ReferenceKind)
    (name : DraftReference) (make : ℕ × Entry → A) (m : Meant entries from its sought name)
    → kind_number its == kind_number its ≡ true
    → slice_get (map make (all_of_kind its entries)) (referred_id its sought entries from name) ≡ Some
    (make (m.place, m.one))
referred-at entries from its sought name make m same =
    let right : is_kind its m.one ≡ true = ap (λ k. kind_number k == kind_number its) m.is ∙ same in
    ap (slice_get (map make (all_of_kind its entries))) (ap (id_of_meaning its entries) m.meaning)
    ∙ made-at its entries make m.place m.one m.there right

-- what passes on from a reference passes at the definition that is meant
pub leads-on : (entries : Entries) (from : Entry) (its : DefinitionKind) (sought : ReferenceKind)
    (name : DraftReference) (test : Entry → Bool) (m : Meant entries from its sought name) → is_chained its ≡ true
    → passes_on test entries (followed entries from (record { kind = sought; written = name })) ≡ true
    → test m.one ≡ true
leads-on entries from its sought name test m chained h =
    let one_chained : is_chained m.one.kind ≡ true = ap is_chained m.is ∙ chained in
    let placed : chained_place entries (definition m.place) ≡ Some m.place = rw m.there (rw one_chained refl) in
    let on : followed entries from (record { kind = sought; written = name }) ≡ Some m.place =
    ap (option_and_then (chained_place entries)) m.meaning ∙ placed in
    let passed = subst (λ o. passes_on test entries o ≡ true) on h in
    rw m.there at passed
