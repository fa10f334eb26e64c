use Rattle.std.proofs.Common.{◌≡◌, ◌+◌, length, take}
use Rattle.psa_model.specs.PathNames.{Text}
use Rattle.psa_spaces.specs.Addresses.{place_of}
use Rattle.psa_spaces.specs.Paths.{path_at}
use Rattle.psa_lookup.specs.Grouping.{absent_names, first_grouped, grouped_address}
use Rattle.psa_lookup.specs.Tables.{table_entries}
use Rattle.psa_lookup.proofs.grouped.note_members.Given as goal

abbrev pub invariant-loop-member : goal.invariant-loop-member
invariant-loop-member l = record {
  count : l.grouped.count ≡ l.fn.grouped.count + length (absent_names (table_entries l.table) (path_at l.table.numbered.containers l.within) (take l.member-index l.members));
  places : (name : Text) → place_of l.grouped.places (grouped_address name)
      ≡ first_grouped (place_of l.fn.grouped.places (grouped_address name)) l.fn.grouped.count name (absent_names (table_entries l.table) (path_at l.table.numbered.containers l.within) (take l.member-index l.members));
}
