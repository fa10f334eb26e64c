-- What is known of the definitions of a draft without a fault of names.
use Rattle.std.proofs.Common.{◌≡◌, inl, inr, ◌≤◌, ℕ, Bool, true, false, not, List, [], ◌∷◌, Option, Some, None, map, ◌&&◌, refl, sym, ap, ◌∙◌, subst, arith}
use Rattle.std.proofs.lemmas.Bool.{false≢true, and_parts, cases_Bool, false_from_ne_true}
use Rattle.std.proofs.lemmas.Option.{none-some}
use Rattle.std.specs.Prelude.{is_none, take, option_map}
use Rattle.std.specs.List.{slice_get, list_all, filter, filter_map, enumerate_from}
use Rattle.psa_model.specs.declared.draft.Draft.{Draft}
use Rattle.psa_model.specs.declared.draft.DraftDefinition.{DraftDefinition}
use Rattle.psa_model.specs.declared.model.TheConstants.{MAX_DEPTH}
use Rattle.psa_model.specs.declared.fault.FaultKind.{FaultKind}
use Rattle.psa_model.specs.Drafts.{reference_position, IsDraft, together, body_contents, has_body, stands_before}
use Rattle.psa_names.specs.Outlines.{Reference, Entry, Entries, entry_of, entries_of}
use Rattle.psa_names.specs.PlacedFaults.{PlacedFault, earliest, earlier, fault_at}
use Rattle.psa_names.specs.NameSpaces.{is_in_family, groups}
use Rattle.psa_names.specs.Chains.{references_of, is_chained, is_within_all}
use Rattle.psa_names.specs.GroupRules.{is_allowed_group}
use Rattle.psa_names.specs.NameFaults.{duplicates, bad_references, bad_groups, cycles, too_deep, fault_of_reference, reference_fault, or_next, first_fault}
use Rattle.psa_names.specs.Meanings.{meaning_of}
use Rattle.psa_names.proofs.ListPlaces.{Has, has-none, has-later, has-cases, has-flat, has-kept, has-map, map-at, All-at, all-from}
use Rattle.psa_names.proofs.FirstPlaces.{has-enumerated}
use Rattle.psa_checks.proofs.Definitions.{stands, IsEntry, AreEntries}

-- ---- no fault

earlier-some : (one : PlacedFault) (o : Option PlacedFault) → earlier one o ≡ None → ⊥
earlier-some one None h = none-some one (sym h)
earlier-some one (Some other) h = elim (cases_Bool (stands_before other.position one.position)) [
  | inl before ↦ none-some other (sym (rw before at h))
  | inr after ↦ none-some one (sym (rw after at h))
]

-- a list of faults without a first is empty
pub no-faults : (all : List PlacedFault) → earliest all ≡ None → all ≡ []
no-faults [] h = refl
no-faults (one ∷ others) h = absurd (earlier-some one (earliest others) h)

next-none : (o : Option PlacedFault) (next : Unit {0} → Option PlacedFault) → or_next o next ≡ None
    → (o ≡ None) × (next tt ≡ None)
next-none None next h = (refl, h)
next-none (Some one) next h = absurd (none-some one (sym h))

map-none : {A B : Type 0} (f : A → B) (o : Option A) → option_map f o ≡ None → o ≡ None
map-none f None h = refl
map-none f (Some x) h = absurd (none-some (f x) (sym h))

-- no check has a fault
pub record HasNoFault (entries : Entries) : Type 0 where
  pub duplicate : duplicates entries ≡ []
  pub reference : bad_references entries ≡ []
  pub group : bad_groups entries ≡ []
  pub cycle : cycles entries ≡ []
  pub deep : too_deep entries ≡ []

-- where there is no first fault, no check has one
pub has-no-fault : (entries : Entries) → first_fault entries ≡ None → HasNoFault entries
has-no-fault entries h =
    let all = map-none (λ (one : PlacedFault). one.fault) _ h in
    let a = next-none (earliest (duplicates entries)) _ all in
    let b = next-none (earliest (bad_references entries)) _ a.1 in
    let c = next-none (earliest (bad_groups entries)) _ b.1 in
    let d = next-none (earliest (cycles entries)) _ c.1 in
    record {
      duplicate = no-faults (duplicates entries) a.0;
      reference = no-faults (bad_references entries) b.0;
      group = no-faults (bad_groups entries) c.0;
      cycle = no-faults (cycles entries) d.0;
      deep = no-faults (too_deep entries) d.1;
    }

-- ---- each definition

nothing-in : {A : Type 0} (xs : List A) (x : A) → xs ≡ [] → Has xs x → ⊥
nothing-in {A} xs x none here = has-none x (subst (λ (ys : List A). Has ys x) none here)

has-made : {A B : Type 0} (f : A → Option B) (xs : List A) (x : A) (y : B) → Has xs x → f x ≡ Some y
    → Has (filter_map f xs) y
has-made f [] x y here h = absurd (has-none x here)
has-made {A} {B} f (z ∷ xs) x y here h = by_case (f z) refl (λ later. has-made f xs x y later h)
  where
    by_case : (o : Option B) → f z ≡ o → (Has xs x → Has (filter_map f xs) y) → Has (filter_map f (z ∷ xs)) y
    by_case None at rest = rw at (elim (has-cases z x xs here) [
      | inl same ↦ absurd (none-some y (sym at ∙ (ap f same ∙ h)))
      | inr later ↦ rest later
    ])
    by_case (Some w) at rest = rw at (elim (has-cases z x xs here) [
      | inl same ↦ (0, sym at ∙ (ap f same ∙ h))
      | inr later ↦ has-later w y (filter_map f xs) (rest later)
    ])

-- each reference in a definition stands
pub references-stand : (entries : Entries) (one : Entry) → bad_references entries ≡ [] → Has entries one
    → list_all (stands entries one) (references_of one) ≡ true
references-stand entries one none here =
    all-from (stands entries one) (references_of one)
    (λ reference there. stood reference there
    (reference_fault entries reference.kind (meaning_of entries one reference)) refl)
  where
    stood : (reference : Reference) → Has (references_of one) reference → (o : Option FaultKind)
        → reference_fault entries reference.kind (meaning_of entries one reference) ≡ o
        → stands entries one reference ≡ true
    stood reference there None at = ap (λ (x : Option FaultKind). is_none x) at
    stood reference there (Some its) at =
        absurd (nothing-in (bad_references entries) _ none
        (has-flat (λ (e : Entry). filter_map (fault_of_reference entries e) (references_of e)) entries one _ here
        (has-made (fault_of_reference entries one) (references_of one) reference _ there
        (ap (option_map (λ (k : FaultKind). fault_at k (reference_position reference.written)
        reference.written.place reference.written.name)) at))))

not-kept : {A B : Type 0} (make : A → B) (test : A → Bool) (xs : List A) (x : A) → map make (filter test xs) ≡ []
    → Has xs x → test x ≡ false
not-kept make test xs x none here = false_from_ne_true (test x)
    (λ passes. nothing-in _ _ none (has-map make (filter test xs) x (has-kept test xs x here passes)))

and-not : (a b : Bool) → (a && not b) ≡ false → a ≡ true → b ≡ true
and-not true true h k = refl
and-not true false h k = sym h
and-not false b h k = absurd (false≢true k)

group-allowed : (entries : Entries) (place : ℕ) (one : Entry) → bad_groups entries ≡ []
    → slice_get entries place ≡ Some one → is_in_family groups one ≡ true
    → is_allowed_group entries (take place entries) one ≡ true
group-allowed entries place one none there is =
    and-not (is_in_family groups one) (is_allowed_group entries (take place entries) one)
    (not-kept _ (λ (o : ℕ × Entry). is_in_family groups o.1 && not (is_allowed_group entries (take o.0 entries) o.1))
    (enumerate_from 0 entries) (place, one) none (has-enumerated entries place one there)) is

within-all : (entries : Entries) (one : Entry) → too_deep entries ≡ [] → Has entries one → is_chained one.kind ≡ true
    → is_within_all MAX_DEPTH entries one ≡ true
within-all entries one none here is =
    and-not (is_chained one.kind) (is_within_all MAX_DEPTH entries one)
    (not-kept _ (λ (o : Entry). is_chained o.kind && not (is_within_all MAX_DEPTH entries o)) entries one none here)
    is

-- what stands in one of some bodies
part-contents : (all : List DraftDefinition) (d : DraftDefinition) → Has all d
    → (together (map (λ (x : DraftDefinition). body_contents x.body) all)).has_numbers ≡ true
    → ((body_contents d.body).has_numbers ≡ true)
    × ((body_contents d.body).nesting ≤ (together (map (λ (x : DraftDefinition). body_contents x.body) all)).nesting)
part-contents [] d here h = absurd (has-none d here)
part-contents (x ∷ all) d here h =
    let parts = and_parts (body_contents x.body).has_numbers
    (together (map (λ (y : DraftDefinition). body_contents y.body) all)).has_numbers h in
    elim (has-cases x d all here) [
      | inl same ↦
          let first : (body_contents x.body).nesting
          ≤ (together (map (λ (y : DraftDefinition). body_contents y.body) (x ∷ all))).nesting = omega arith in
          subst (λ (y : DraftDefinition). ((body_contents y.body).has_numbers ≡ true)
          × ((body_contents y.body).nesting ≤ (together
          (map (λ (z : DraftDefinition). body_contents z.body) (x ∷ all))).nesting)) same (parts.0, first)
      | inr later ↦ let rest = part-contents all d later parts.1 in let nested =
          rest.1 in (rest.0, omega (arith, nested))
    ]

-- each definition of a draft without a fault
pub are-entries : (draft : Draft) → IsDraft draft → HasNoFault (entries_of draft) → AreEntries (entries_of draft)
are-entries draft is none place one there =
    let entries = entries_of draft in
    let d = map-at entry_of draft.definitions place one there in
    let contents = part-contents draft.definitions d.0 (place, d.1) is.numbers in
    let shallow = is.shallow in
    let nested = contents.1 in
    subst (λ (e : Entry). slice_get entries place ≡ Some e → IsEntry entries place e) d.2 (λ at. record {
      laid = refl;
      body = All-at (λ (x : DraftDefinition). has_body x.kind x.body ≡ true) draft.definitions d.0 is.bodies
          (place, d.1);
      numbers = contents.0;
      shallow = omega (arith, nested, shallow);
      stand = references-stand entries (entry_of d.0) none.reference (place, at);
      within = within-all entries (entry_of d.0) none.deep (place, at);
      allowed = group-allowed entries place (entry_of d.0) none.group at;
    }) there
