use Rattle.std.proofs.Common.{map, take}
use Rattle.psa_names.specs.Outlines.{entry_of}
use Rattle.psa_lookup.specs.Members.{AreMembersOf}
use Rattle.psa_lookup.specs.Senses.{names_entries}
use Rattle.psa_lookup.proofs.GroupLemmas.{ArePassed}
use Rattle.psa_lookup.proofs.groups.add_groups.Given as goal

abbrev pub invariant-loop-place : goal.invariant-loop-place
invariant-loop-place l = record {
  members : AreMembersOf (names_entries l.names) (map entry_of (take l.place l.definitions)) l.members;
  passed : ArePassed (names_entries l.names) l.place;
}
