-- The first fault of the first three checks, or that there is none.
use Rattle.std.proofs.Common.{◌≡◌, [], ◌∷◌, List, Option, Some, None, Result, Ok, Err, IfOk, OnOk, map, refl, sym, ap, ◌∙◌}
use Rattle.std.specs.Option.{option_map, option_or}
use Rattle.psa_model.specs.declared.draft.Draft.{Draft}
use Rattle.psa_model.specs.declared.draft.DraftDefinition.{DraftDefinition}
use Rattle.psa_model.specs.declared.fault.ModelFault.{ModelFault}
use Rattle.psa_names.specs.Found.{HasNames, IsFound, meaning_of_sense, member_meanings, reference_meanings}
use Rattle.psa_names.specs.NameFaults.{bad_groups, bad_references, duplicates, name_fault}
use Rattle.psa_names.specs.Outlines.{Entry, Entries, entries_of, entry_of}
use Rattle.psa_names.specs.PlacedFaults.{earliest}
use Rattle.psa_names.specs.declared.error.CheckError.{CheckError}
use Rattle.psa_names.specs.declared.found.Found.{Found}
use Rattle.psa_lookup.specs.Senses.{IsPass}
use Rattle.psa_lookup.specs.Sooner.{placed_fault}
use Rattle.psa_lookup.specs.declared.pass.Pass.{Pass}
use Rattle.psa_lookup.specs.declared.placed.Placed.{Placed}

-- what the three checks found
pub record IsChecked (draft : Draft) (repeat : Option Placed) (references groups : Pass) : Type 0 where
  pub repeat_is : option_map placed_fault repeat ≡ earliest (duplicates (entries_of draft))
  pub references_are : IsPass (entries_of draft) references (bad_references (entries_of draft)) (reference_meanings (entries_of draft))
  pub groups_are : IsPass (entries_of draft) groups (bad_groups (entries_of draft)) (member_meanings (entries_of draft))

-- what is there is the same
some-equal : {A : Type 0} (x y : A) → Some x ≡ Some y → x ≡ y
some-equal x y h = cc

-- the first fault of three checks, in their order, is the first fault of names
fault-first : (draft : Draft) (repeat wrong bad : Option Placed) (first : Placed)
    → option_map placed_fault repeat ≡ earliest (duplicates (entries_of draft))
    → option_map placed_fault wrong ≡ earliest (bad_references (entries_of draft))
    → option_map placed_fault bad ≡ earliest (bad_groups (entries_of draft))
    → option_or (option_or repeat wrong) bad ≡ Some first → name_fault draft ≡ Some (placed_fault first).fault
fault-first draft (Some x) wrong bad first p q r is = rw (sym p) (ap (λ (y : Placed). Some (placed_fault y).fault) (some-equal x first is))
fault-first draft None (Some x) bad first p q r is = rw (sym p, sym q) (ap (λ (y : Placed). Some (placed_fault y).fault) (some-equal x first is))
fault-first draft None None (Some x) first p q r is = rw (sym p, sym q, sym r) (ap (λ (y : Placed). Some (placed_fault y).fault) (some-equal x first is))
fault-first draft None None None first p q r is = absurd (cc)

-- the fault that is told is the first
pub told : (draft : Draft) (repeat : Option Placed) (references groups : Pass) (first : Option Placed) (other : ModelFault) → IsChecked draft repeat references groups → option_or (option_or repeat references.first) groups.first ≡ first
    → option_map (λ (one : Placed). (placed_fault one).fault) first ≡ Some other → name_fault draft ≡ Some other
told draft repeat references groups (Some first) other is at told_as =
    fault-first draft repeat references.first groups.first first is.repeat_is is.references_are.first is.groups_are.first at ∙ told_as
told draft repeat references groups None other is at told_as = absurd (cc)

-- none of three is there
none-or : (a b c : Option Placed) → option_or (option_or a b) c ≡ None → (a ≡ None) × (b ≡ None) × (c ≡ None)
none-or None None None h = (refl, refl, refl)
none-or None None (Some c) h = absurd (cc)
none-or None (Some b) c h = absurd (cc)
none-or (Some a) b c h = absurd (cc)

-- no fault
pub no-faults-named : (draft : Draft) (repeat : Option Placed) (references groups : Pass) → IsChecked draft repeat references groups → option_or (option_or repeat references.first) groups.first ≡ None → HasNames draft
no-faults-named draft repeat references groups is none =
    let p = none-or repeat references.first groups.first none in
    record {
      no_duplicate = sym is.repeat_is ∙ ap (option_map placed_fault) p.0;
      no_bad_reference = sym is.references_are.first ∙ ap (option_map placed_fault) p.1;
      no_bad_group = sym is.groups_are.first ∙ ap (option_map placed_fault) p.2;
    }

-- and so all that was found
pub all-found : (draft : Draft) (repeat : Option Placed) (references groups : Pass) (found : Found) → IsChecked draft repeat references groups → option_or (option_or repeat references.first) groups.first ≡ None → found.references ≡ references.senses → found.members ≡ groups.senses → IsFound draft found
all-found draft repeat references groups found is none at in_groups =
    let names = no-faults-named draft repeat references groups is none in
    record {
      references = ap (map (meaning_of_sense (entries_of draft))) at ∙ is.references_are.all names.no_bad_reference;
      members = ap (map (meaning_of_sense (entries_of draft))) in_groups ∙ is.groups_are.all names.no_bad_group;
    }

-- where all was found, there was no fault
pub named-where-found : (draft : Draft) (repeat : Option Placed) (references groups : Pass) (first : Option Placed) (result : Result Found CheckError) → IsChecked draft repeat references groups → option_or (option_or repeat references.first) groups.first ≡ first
    → IfOk result (λ found. (first ≡ None) × (found.references ≡ references.senses) × (found.members ≡ groups.senses)) → OnOk result (HasNames draft)
named-where-found draft repeat references groups first (Ok found) is at h = no-faults-named draft repeat references groups is (at ∙ h.0)
named-where-found draft repeat references groups first (Err e) is at h = tt

-- and what was found is all
pub found-where-found : (draft : Draft) (repeat : Option Placed) (references groups : Pass) (first : Option Placed) (result : Result Found CheckError) → IsChecked draft repeat references groups → option_or (option_or repeat references.first) groups.first ≡ first
    → IfOk result (λ found. (first ≡ None) × (found.references ≡ references.senses) × (found.members ≡ groups.senses)) → IfOk result (IsFound draft)
found-where-found draft repeat references groups first (Ok found) is at h = all-found draft repeat references groups found is (at ∙ h.0) h.1 h.2
found-where-found draft repeat references groups first (Err e) is at h = tt

-- ---- definitions and their entries

-- the definitions of entries
definitions-back : (ds : List DraftDefinition) → map (λ (e : Entry). e.definition) (map entry_of ds) ≡ ds
definitions-back [] = refl
definitions-back (d ∷ ds) = ap (λ (l : List DraftDefinition). d ∷ l) (definitions-back ds)

-- definitions with the same entries are the same
pub same-definitions : (ds es : List DraftDefinition) → map entry_of ds ≡ map entry_of es → ds ≡ es
same-definitions ds es same =
    sym (definitions-back ds) ∙ ap (λ (l : Entries). map (λ (e : Entry). e.definition) l) same ∙ definitions-back es
