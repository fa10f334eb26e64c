-- What is found of a name is what it means.
use Rattle.std.proofs.Common.{◌≡◌, ◌-◌, ◌&&◌, ℕ, zero, suc, Bool, true, false, List, [], ◌∷◌, ◌++◌, map, slice_get, Option, Some, None, is_some, not, if◌then◌else◌, refl, sym, ap, ◌∙◌, subst, arith, append_assoc}
use Rattle.std.specs.List.{position_from}
use Rattle.std.specs.Str.{bytes_eq}
use Rattle.std.specs.Option.{option_map, option_or, option_to_list}
use Rattle.psa_model.specs.Drafts.{stands_before}
use Rattle.psa_model.specs.PathNames.{Text, is_path}
use Rattle.psa_model.specs.declared.fault.FaultKind.{FaultKind}
use Rattle.psa_model.specs.declared.fault.FaultKind.TheVariants as fault
use Rattle.psa_model.specs.declared.draft.DraftDefinition.{DraftDefinition}
use Rattle.psa_names.specs.Found.{defined_by_groups, meaning_of_sense}
use Rattle.psa_names.specs.NameSpaces.{events}
use Rattle.psa_names.specs.Outlines.{Entry, Entries, Reference, entry_of}
use Rattle.psa_names.specs.Meanings.{Meaning, definition, of_group, definition_named, defined_by_group, is_defined_by_group, meaning_of_event, meaning_of}
use Rattle.psa_names.specs.NameFaults.{fault_of_reference, reference_fault}
use Rattle.psa_names.specs.PlacedFaults.{PlacedFault, earliest}
use Rattle.psa_names.specs.declared.found.Sense.{Sense}
use Rattle.psa_names.specs.declared.found.Sense.TheVariants.{Definition, OfGroup}
use Rattle.psa_spaces.proofs.ListLemmas.{first-at}
use Rattle.psa_lookup.specs.Members.{sense_of}
use Rattle.psa_lookup.specs.Senses.{Means, IsPass, fault_at_reference, faults_among, meanings_among}
use Rattle.psa_lookup.specs.Sooner.{placed_fault, sooner_of}
use Rattle.psa_lookup.specs.declared.placed.Placed.{Placed}
use Rattle.psa_lookup.specs.declared.pass.Pass.{Pass}
use Rattle.psa_lookup.proofs.AddressLemmas.{first-some}
use Rattle.psa_lookup.proofs.BoolLemmas.{any-flat, any-same, text-turned, text-same, map-one}
use Rattle.psa_lookup.proofs.PositionLemmas.{earliest-append}

-- ---- events

-- a definition was found
pub event-found : (entries : Entries) (container : List Text) (name : Text) (place : ℕ) → Some place ≡ definition_named entries events container name → Means entries (Some (Definition place)) (meaning_of_event entries container name)
event-found entries container name place found =
    (definition place, refl, ap (λ o. option_or (option_map definition o) (if not (is_path name) && is_defined_by_group entries name then Some (of_group name) else None)) (sym found))

-- a path for which nothing was found
pub event-nowhere : (entries : Entries) (container : List Text) (name : Text) → None ≡ definition_named entries events container name → is_path name ≡ true → Means entries None (meaning_of_event entries container name)
event-nowhere entries container name none path =
    ap (λ o. option_or (option_map definition o) (if not (is_path name) && is_defined_by_group entries name then Some (of_group name) else None)) (sym none)
    ∙ ap (λ b. if not b && is_defined_by_group entries name then Some (of_group name) else None) path

-- a name is defined by a group exactly where it has a number
pub grouped-any : (entries : Entries) (name : Text) → is_defined_by_group entries name ≡ is_some (position_from (λ one. bytes_eq one name) 0 (defined_by_groups entries))
grouped-any entries name =
    sym (any-flat (bytes_eq name) (defined_by_group entries) entries)
    ∙ any-same (bytes_eq name) (λ one. bytes_eq one name) (defined_by_groups entries) (λ one. text-turned name one)
    ∙ sym (first-some (λ one. bytes_eq one name) 0 (defined_by_groups entries))

-- what a name means for which the search finds nothing
grouped-meaning : (entries : Entries) (container : List Text) (name : Text) (number : Option ℕ) → None ≡ definition_named entries events container name → is_path name ≡ false
    → number ≡ position_from (λ one. bytes_eq one name) 0 (defined_by_groups entries) → meaning_of_event entries container name ≡ (if is_some number then Some (of_group name) else None)
grouped-meaning entries container name number none plain is =
    ap (λ o. option_or (option_map definition o) (if not (is_path name) && is_defined_by_group entries name then Some (of_group name) else None)) (sym none)
    ∙ ap (λ b. if not b && is_defined_by_group entries name then Some (of_group name) else None) plain
    ∙ ap (λ b. if b then Some (of_group name) else None) (grouped-any entries name ∙ ap is_some (sym is))

-- what the groups define
pub event-grouped : (entries : Entries) (container : List Text) (name : Text) (number : Option ℕ) (sense : Option Sense) → None ≡ definition_named entries events container name → is_path name ≡ false
    → number ≡ position_from (λ one. bytes_eq one name) 0 (defined_by_groups entries) → sense ≡ option_map OfGroup number → Means entries sense (meaning_of_event entries container name)
event-grouped entries container name number sense none plain is found =
    subst (λ s. Means entries s (meaning_of_event entries container name)) (sym found)
    (subst (λ m. Means entries (option_map OfGroup number) m) (sym (grouped-meaning entries container name number none plain is)) (by number refl))
  where
    by : (o : Option ℕ) → number ≡ o → Means entries (option_map OfGroup o) (if is_some o then Some (of_group name) else None)
    by None e = refl
    by (Some n) e =
        (let f = first-at (λ one. bytes_eq one name) 0 (defined_by_groups entries) n (sym is ∙ e) in
        let same : n - 0 ≡ n = omega arith in
        let at : slice_get (defined_by_groups entries) n ≡ Some f.1.0 = ap (slice_get (defined_by_groups entries)) (sym same) ∙ f.1.1 in
        (of_group name, ap (option_map of_group) at ∙ ap (λ (t : Text). Some (of_group t)) (text-same f.1.0 name f.1.2), refl))

-- ---- what is kept of events

-- of a definition that was found
pub sense-found : (entries : Entries) (container : List Text) (name : Text) (place : ℕ) → Some place ≡ definition_named entries events container name → Some (Definition place) ≡ sense_of entries (meaning_of_event entries container name)
sense-found entries container name place found =
    ap (λ o. sense_of entries (option_or (option_map definition o) (if not (is_path name) && is_defined_by_group entries name then Some (of_group name) else None))) found

-- of a path for which nothing was found
pub sense-nowhere : (entries : Entries) (container : List Text) (name : Text) → None ≡ definition_named entries events container name → is_path name ≡ true → None ≡ sense_of entries (meaning_of_event entries container name)
sense-nowhere entries container name none path = ap (sense_of entries) (sym (event-nowhere entries container name none path))

-- of an event that groups define, its first number
pub sense-grouped : (entries : Entries) (container : List Text) (name : Text) (number : Option ℕ) (sense : Option Sense) → None ≡ definition_named entries events container name → is_path name ≡ false
    → number ≡ position_from (λ one. bytes_eq one name) 0 (defined_by_groups entries) → sense ≡ option_map OfGroup number → sense ≡ sense_of entries (meaning_of_event entries container name)
sense-grouped entries container name number sense none plain is found =
    found ∙ by number is ∙ ap (sense_of entries) (sym (grouped-meaning entries container name number none plain is))
  where
    by : (o : Option ℕ) → o ≡ position_from (λ one. bytes_eq one name) 0 (defined_by_groups entries) → option_map OfGroup o ≡ sense_of entries (if is_some o then Some (of_group name) else None)
    by None e = refl
    by (Some n) e = ap (option_map OfGroup) e

-- ---- a pass, one name more

abbrev pub listed : {A : Type 0} → Option A → List A
listed None = []
listed (Some x) = x ∷ []

earliest-listed : (fault : Option PlacedFault) → earliest (listed fault) ≡ fault
earliest-listed None = refl
earliest-listed (Some one) = refl

sooner-parts : (a b : Option PlacedFault) → sooner_of a b ≡ None → (a ≡ None) × (b ≡ None)
sooner-parts None b h = (refl, h)
sooner-parts (Some a) None h = absurd (cc)
sooner-parts (Some a) (Some b) h = absurd (by (stands_before b.position a.position) h)
  where
    by : (t : Bool) → (if t then Some b else Some a) ≡ None → ⊥
    by true h = cc
    by false h = cc

pub no-faults : (xs ys : List PlacedFault) → earliest (xs ++ ys) ≡ None → (earliest xs ≡ None) × (earliest ys ≡ None)
no-faults xs ys h = sooner-parts (earliest xs) (earliest ys) (sym (earliest-append xs ys) ∙ h)

pub pass-more : (entries : Entries) (old new : Pass) (faults more : List PlacedFault) (meanings others : List (Option Meaning)) (fault : Option Placed)
    → IsPass entries old faults meanings
    → option_map placed_fault new.first ≡ sooner_of (option_map placed_fault old.first) (option_map placed_fault fault)
    → option_map placed_fault fault ≡ earliest more
    → (earliest more ≡ None → map (meaning_of_sense entries) new.senses ≡ map (meaning_of_sense entries) old.senses ++ others)
    → IsPass entries new (faults ++ more) (meanings ++ others)
pass-more entries old new faults more meanings others fault is first its rest = record {
  first = first ∙ ap (λ o. sooner_of o (option_map placed_fault fault)) is.first ∙ ap (sooner_of (earliest faults)) its ∙ sym (earliest-append faults more);
  all = λ none.
      let parts = no-faults faults more none in
      rest parts.1 ∙ ap (λ (l : List (Option Meaning)). l ++ others) (is.all parts.0);
}

-- one reference more
pub pass-reference : (entries : Entries) (old new : Pass) (from : Entry) (reference : Reference) (faults : List PlacedFault) (meanings : List (Option Meaning)) (sense : Option Sense) (its_fault : Option Placed) (wrong_kind : Option FaultKind)
    → IsPass entries old faults meanings
    → Means entries sense (meaning_of entries from reference)
    → option_map placed_fault its_fault ≡ option_map (fault_at_reference reference) wrong_kind
    → wrong_kind ≡ reference_fault entries reference.kind (meaning_of entries from reference)
    → option_map placed_fault new.first ≡ sooner_of (option_map placed_fault old.first) (option_map placed_fault its_fault)
    → new.senses ≡ old.senses ++ option_to_list sense
    → IsPass entries new (faults ++ listed (fault_of_reference entries from reference)) (meanings ++ meaning_of entries from reference ∷ [])
pass-reference entries old new from reference faults meanings sense its_fault wrong_kind is means at wrong first pushed =
    let its : option_map placed_fault its_fault ≡ fault_of_reference entries from reference = at ∙ ap (option_map (fault_at_reference reference)) wrong in
    pass-more entries old new faults (listed (fault_of_reference entries from reference)) meanings (meaning_of entries from reference ∷ []) its_fault is first
    (its ∙ sym (earliest-listed (fault_of_reference entries from reference)))
    (λ none. ap (map (meaning_of_sense entries)) pushed ∙ by sense means (sym (earliest-listed (fault_of_reference entries from reference)) ∙ none))
  where
    by : (s : Option Sense) → Means entries s (meaning_of entries from reference) → fault_of_reference entries from reference ≡ None → map (meaning_of_sense entries) (old.senses ++ option_to_list s) ≡ map (meaning_of_sense entries) old.senses ++ meaning_of entries from reference ∷ []
    by None m none =
        absurd (let bad : Some (fault_at_reference reference fault.Undefined) ≡ None = ap (λ (o : Option Meaning). option_map (fault_at_reference reference) (reference_fault entries reference.kind o)) (sym m) ∙ none in cc)
    by (Some s) m none =
        map-one (meaning_of_sense entries) old.senses s
        ∙ ap (λ (o : Option Meaning). map (meaning_of_sense entries) old.senses ++ o ∷ []) (m.1 ∙ sym m.2)

faults-one : (entries : Entries) (from : Entry) (references : List Reference) (one : Reference) → faults_among entries from (references ++ one ∷ []) ≡ faults_among entries from references ++ listed (fault_of_reference entries from one)
faults-one entries from [] one = by (fault_of_reference entries from one) refl
  where
    by : (o : Option PlacedFault) → fault_of_reference entries from one ≡ o → faults_among entries from (one ∷ []) ≡ listed (fault_of_reference entries from one)
    by None e = rw e refl
    by (Some x) e = rw e refl
faults-one entries from (x ∷ xs) one = by (fault_of_reference entries from x) refl (faults-one entries from xs one)
  where
    by : (o : Option PlacedFault) → fault_of_reference entries from x ≡ o → faults_among entries from (xs ++ one ∷ []) ≡ faults_among entries from xs ++ listed (fault_of_reference entries from one) → faults_among entries from ((x ∷ xs) ++ one ∷ []) ≡ faults_among entries from (x ∷ xs) ++ listed (fault_of_reference entries from one)
    by None e rest = rw e rest
    by (Some y) e rest = rw e (ap (λ (l : List PlacedFault). y ∷ l) rest)

pub among-one : (entries : Entries) (pass : Pass) (from : Entry) (faults : List PlacedFault) (meanings : List (Option Meaning)) (before : List Reference) (one : Reference)
    → IsPass entries pass ((faults ++ faults_among entries from before) ++ listed (fault_of_reference entries from one)) ((meanings ++ meanings_among entries from before) ++ meaning_of entries from one ∷ [])
    → IsPass entries pass (faults ++ faults_among entries from (before ++ one ∷ [])) (meanings ++ meanings_among entries from (before ++ one ∷ []))
among-one entries pass from faults meanings before one is =
    let first : (faults ++ faults_among entries from before) ++ listed (fault_of_reference entries from one) ≡ faults ++ faults_among entries from (before ++ one ∷ []) =
    append_assoc faults (faults_among entries from before) (listed (fault_of_reference entries from one)) ∙ ap (λ (l : List PlacedFault). faults ++ l) (sym (faults-one entries from before one)) in
    let second : (meanings ++ meanings_among entries from before) ++ meaning_of entries from one ∷ [] ≡ meanings ++ meanings_among entries from (before ++ one ∷ []) =
    append_assoc meanings (meanings_among entries from before) (meaning_of entries from one ∷ []) ∙ ap (λ (l : List (Option Meaning)). meanings ++ l) (sym (map-one (meaning_of entries from) before one)) in
    subst (λ (l : List PlacedFault). IsPass entries pass l (meanings ++ meanings_among entries from (before ++ one ∷ []))) first
    (subst (λ (l : List (Option Meaning)). IsPass entries pass ((faults ++ faults_among entries from before) ++ listed (fault_of_reference entries from one)) l) second is)

-- ---- whether a name fits

pub entry-at : (definitions : List DraftDefinition) (place : ℕ) → slice_get (map entry_of definitions) place ≡ option_map entry_of (slice_get definitions place)
entry-at [] place = refl
entry-at (one ∷ others) zero = refl
entry-at (one ∷ others) (suc place) = entry-at others place
