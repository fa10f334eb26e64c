use Rattle.std.proofs.Common.{◌≡◌, None, length, take}
use Rattle.psa_model.specs.PathNames.{Text}
use Rattle.psa_spaces.specs.Addresses.{place_of}
use Rattle.psa_lookup.specs.Grouping.{first_grouped, grouped_address}
use Rattle.psa_lookup.specs.Tables.{table_entries}
use Rattle.psa_lookup.proofs.GroupingLemmas.{absent_of}
use Rattle.psa_lookup.proofs.grouped.group_names.Given as goal

abbrev pub invariant-loop-place : goal.invariant-loop-place
invariant-loop-place l = record {
  count : l.grouped.count ≡ length (absent_of (table_entries l.table) (take l.place l.definitions));
  places : (name : Text) → place_of l.grouped.places (grouped_address name) ≡ first_grouped None 0 name (absent_of (table_entries l.table) (take l.place l.definitions));
}
