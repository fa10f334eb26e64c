-- What the names in a draft stand for, found once each, in the order of the definitions. (This project's own.)
use Rattle.std.specs.Prelude.{◌≡◌, List, Option, Some, None, map, flat_map}
use Rattle.std.specs.List.{slice_get}
use Rattle.std.specs.Option.{option_map}
use Rattle.psa_model.specs.PathNames.{Text}
use Rattle.psa_model.specs.declared.draft.Draft.{Draft}
use Rattle.psa_names.specs.declared.found.Found.{Found}
use Rattle.psa_names.specs.declared.found.Sense.{Sense}
use Rattle.psa_names.specs.declared.found.Sense.TheVariants.{Definition, OfGroup}
use Rattle.psa_names.specs.Outlines.{Entries, entries_of}
use Rattle.psa_names.specs.PlacedFaults.{earliest}
use Rattle.psa_names.specs.Meanings.{Meaning, definition, of_group, defined_by_group, meaning_of}
use Rattle.psa_names.specs.GroupRules.{meanings_of_members}
use Rattle.psa_names.specs.Chains.{references_of}
use Rattle.psa_names.specs.NameFaults.{duplicates, bad_references, bad_groups}

-- the names of the basic events that groups define, in document order
abbrev pub defined_by_groups : Entries → List Text
defined_by_groups entries = flat_map (defined_by_group entries) entries

abbrev pub meaning_of_sense : Entries → Sense → Option Meaning
meaning_of_sense entries (Definition place) = Some (definition place)
meaning_of_sense entries (OfGroup number) = option_map of_group (slice_get (defined_by_groups entries) number)

abbrev pub reference_meanings : Entries → List (Option Meaning)
reference_meanings entries = flat_map (λ one. map (meaning_of entries one) (references_of one)) entries

abbrev pub member_meanings : Entries → List (Option Meaning)
member_meanings entries = flat_map (meanings_of_members entries) entries

-- this was found of the names in a draft
pub record IsFound (draft : Draft) (found : Found) : Type 0 where
  pub references : map (meaning_of_sense (entries_of draft)) found.references ≡ reference_meanings (entries_of draft)
  pub members : map (meaning_of_sense (entries_of draft)) found.members ≡ member_meanings (entries_of draft)

-- the first three checks have no fault: names, references and groups
pub record HasNames (draft : Draft) : Type 0 where
  pub no_duplicate : earliest (duplicates (entries_of draft)) ≡ None
  pub no_bad_reference : earliest (bad_references (entries_of draft)) ≡ None
  pub no_bad_group : earliest (bad_groups (entries_of draft)) ≡ None
