-- The numbers that names are replaced by: of a definition its place among those of its kind, of a basic event its place
-- among all basic events, also those that groups define. (This project's own.)
use Rattle.std.specs.Prelude.{◌≡◌, ℕ, Some, map, slice_get, if◌then◌else◌}
use Rattle.std.specs.List.{enumerate_from}
use Rattle.psa_model.specs.declared.draft.DefinitionKind.TheVariants as kind
use Rattle.psa_names.specs.Outlines.{Entry, Entries}
use Rattle.psa_names.specs.Meanings.{definition, of_group}
use Rattle.psa_names.specs.Found.{defined_by_groups}
use Rattle.psa_names.specs.Ids.{is_kind, id_of, basic_id}
use Rattle.psa_bodies.specs.declared.numbers.Numbered.{Numbered}
use Rattle.psa_bodies.specs.declared.numbers.Numbers.{Numbers}

abbrev pub own_id : Entries → ℕ × Entry → ℕ
own_id entries one =
    if is_kind kind.BasicEvent one.1 then basic_id entries (definition one.0) else id_of one.1.kind entries one.0

abbrev pub numbered : Entries → ℕ × Entry → Numbered
numbered entries one = record { kind = one.1.kind; id = own_id entries one }

-- the definition at a place of the draft, with its number
pub record IsEntryAt (entries : Entries) (place : ℕ) (its : Numbered) : Type 0 where
  pub one : Entry
  pub found : slice_get entries place ≡ Some one
  pub is : its ≡ numbered entries (place, one)

pub record AreNumbers (entries : Entries) (numbers : Numbers) : Type 0 where
  pub definitions : numbers.definitions ≡ map (numbered entries) (enumerate_from 0 entries)
  pub of_groups : numbers.of_groups ≡ map (λ name. basic_id entries (of_group name)) (defined_by_groups entries)
