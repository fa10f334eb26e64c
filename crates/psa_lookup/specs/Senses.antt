-- What is found of names, beside its definition. (This project's own.)
use Rattle.std.specs.Prelude.{◌≡◌, ℕ, List, Option, Some, None, map, filter_map}
use Rattle.std.specs.List.{position_from}
use Rattle.std.specs.Str.{bytes_eq}
use Rattle.std.specs.Option.{option_map}
use Rattle.psa_model.specs.PathNames.{Text}
use Rattle.psa_spaces.specs.Addresses.{place_of}
use Rattle.psa_spaces.specs.Paths.{Path, IsPath}
use Rattle.psa_names.specs.Found.{defined_by_groups, meaning_of_sense}
use Rattle.psa_model.specs.Drafts.{reference_position}
use Rattle.psa_model.specs.declared.fault.FaultKind.{FaultKind}
use Rattle.psa_names.specs.Meanings.{Meaning, meaning_of, scope_of, tree_of}
use Rattle.psa_names.specs.NameFaults.{fault_of_reference}
use Rattle.psa_names.specs.Outlines.{Entry, Entries, Reference}
use Rattle.psa_names.specs.PlacedFaults.{PlacedFault, earliest, fault_at}
use Rattle.psa_names.specs.declared.found.Sense.{Sense}
use Rattle.psa_lookup.specs.Grouping.{grouped_address}
use Rattle.psa_lookup.specs.Sooner.{placed_fault}
use Rattle.psa_lookup.specs.Tables.{IsTable, table_entries}
use Rattle.psa_lookup.specs.declared.names.Around.{Around}
use Rattle.psa_lookup.specs.declared.names.Names.{Names}
use Rattle.psa_lookup.specs.declared.pass.Pass.{Pass}

-- a sense stands for something, or nothing was found and there is nothing
abbrev pub Means : Entries → Option Sense → Option Meaning → Type 0
Means entries None meaning = meaning ≡ None
Means entries (Some sense) meaning = (its : Meaning) × (meaning_of_sense entries sense ≡ Some its) × (meaning ≡ Some its)

abbrev pub names_entries : Names → Entries
names_entries names = table_entries names.table

abbrev pub names_paths : Names → List Path
names_paths names = names.table.numbered.containers

pub record IsNames (names : Names) : Type 0 where
  pub table : IsTable names.table
  pub grouped : (name : Text) → place_of names.grouped (grouped_address name)
      ≡ position_from (λ one. bytes_eq one name) 0 (defined_by_groups (names_entries names))

-- a number of a container, or none where the container has none
abbrev pub IsNumberOf : List Path → Option ℕ → Path → Type 0
IsNumberOf paths None path = (number : ℕ) → IsPath paths number path → ⊥
IsNumberOf paths (Some number) path = IsPath paths number path

-- where the names in a definition are searched
pub record IsAroundIn (paths : List Path) (around : Around) (one : Entry) : Type 0 where
  pub scope : IsPath paths around.scope (scope_of one)
  pub tree : IsNumberOf paths around.tree (tree_of one)

-- what was found after some names: their first fault, or without a fault what each stands for
pub record IsPass (entries : Entries) (pass : Pass) (faults : List PlacedFault) (meanings : List (Option Meaning)) : Type 0 where
  pub first : option_map placed_fault pass.first ≡ earliest faults
  pub all : earliest faults ≡ None → map (meaning_of_sense entries) pass.senses ≡ meanings

-- the fault of this kind of a name
abbrev pub fault_at_reference : Reference → FaultKind → PlacedFault
fault_at_reference reference its =
    fault_at its (reference_position reference.written) reference.written.place reference.written.name

abbrev pub faults_among : Entries → Entry → List Reference → List PlacedFault
faults_among entries one references = filter_map (fault_of_reference entries one) references

abbrev pub meanings_among : Entries → Entry → List Reference → List (Option Meaning)
meanings_among entries one references = map (meaning_of entries one) references
