-- What a table of names answers. (This project's own.)
use Rattle.std.specs.Prelude.{◌≡◌, ◌<◌, ◌^◌, ℕ, Bool, true, List, None, map, length}
use Rattle.psa_model.specs.PathNames.{Text}
use Rattle.psa_spaces.specs.Addresses.{place_of}
use Rattle.psa_spaces.specs.Paths.{Path, IsPath, AreContainers}
use Rattle.psa_spaces.specs.declared.key.Key.{Key}
use Rattle.psa_spaces.specs.declared.key.Family.{Family}
use Rattle.psa_spaces.specs.declared.key.Family.TheVariants as kept
use Rattle.psa_names.specs.NameSpaces as space
use Rattle.psa_names.specs.Outlines.{Entries, entry_of}
use Rattle.psa_names.specs.Meanings.{in_whole_model, public_one, one_directly_in}
use Rattle.psa_lookup.specs.Keys.{has_whole, has_inside, is_contained, whole_address, inside_address}
use Rattle.psa_lookup.specs.Numbers.{IsNumbered}
use Rattle.psa_lookup.specs.declared.table.Table.{Table}

-- the family that is kept so
abbrev pub meant : Family → space.Family
meant kept.Events = space.events
meant kept.Parameters = space.parameters
meant kept.FaultTrees = space.fault_trees
meant kept.Components = space.components
meant kept.Groups = space.groups
meant kept.EventTrees = space.event_trees
meant kept.InitiatingEvents = space.initiating_events
meant kept.FunctionalEvents = space.functional_events
meant kept.Sequences = space.sequences
meant kept.Branches = space.branches
meant kept.Rules = space.rules

-- These places answer the searches among some definitions: in a container, among the public ones, in the whole model;
-- in a container without a number there is no definition.
pub record IsRight (entries : Entries) (paths : List Path) (places : List (Key × ℕ)) : Type 0 where
  pub containers : AreContainers paths
  pub inside : (family : Family) (number : ℕ) (path : Path) (name : Text) → has_inside family (is_contained path) ≡ true
      → IsPath paths number path
      → place_of places (inside_address family number name) ≡ one_directly_in entries (meant family) path name
  pub absent : (family : Family) (path : Path) (name : Text) → ((number : ℕ) → IsPath paths number path → ⊥)
      → one_directly_in entries (meant family) path name ≡ None
  pub public : (family : Family) (name : Text) → space.is_scoped (meant family) ≡ true
      → place_of places (whole_address family name) ≡ public_one entries (meant family) name
  pub whole : (family : Family) (name : Text) → ((private : Bool) → has_whole family private ≡ true)
      → place_of places (whole_address family name) ≡ in_whole_model entries (meant family) name

abbrev pub table_entries : Table → Entries
table_entries table = map entry_of table.definitions.now

pub record IsTable (table : Table) : Type 0 where
  pub right : IsRight (table_entries table) table.numbered.containers table.places
  pub numbered : IsNumbered table.numbered.containers table.numbered.numbers table.definitions.now
  pub few : length table.definitions.now < 2 ^ 32
