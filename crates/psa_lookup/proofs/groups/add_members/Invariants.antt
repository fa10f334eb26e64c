use Rattle.std.proofs.Common.{◌≡◌, ◌++◌, Some, map, take, drop}
use Rattle.psa_spaces.specs.Paths.{path_at}
use Rattle.psa_lookup.specs.Members.{may_join, senses_of_members}
use Rattle.psa_lookup.specs.Senses.{names_entries, names_paths}
use Rattle.psa_lookup.proofs.groups.add_members.Given as goal

abbrev pub invariant-loop-member : goal.invariant-loop-member
invariant-loop-member l = record {
  rest : may_join (names_entries l.names) l.fn.members (senses_of_members (names_entries l.names) (path_at (names_paths l.names) l.within) l.added)
      ≡ may_join (names_entries l.names) l.members (senses_of_members (names_entries l.names) (path_at (names_paths l.names) l.within) (drop l.member-index l.added));
  added : map Some l.members ≡ map Some l.fn.members ++ senses_of_members (names_entries l.names) (path_at (names_paths l.names) l.within) (take l.member-index l.added);
}
