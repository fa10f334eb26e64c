use Rattle.std.proofs.Common.{◌≡◌, ◌<◌, length}
use Rattle.psa_spaces.specs.Paths.{path_at}
use Rattle.psa_names.specs.Meanings.{by_scope}
use Rattle.psa_lookup.specs.Tables.{meant, table_entries}
use Rattle.psa_lookup.proofs.search.find_outwards.Given as goal

abbrev pub invariant-loop-outer : goal.invariant-loop-outer
invariant-loop-outer l = record {
  stands : l.within < length l.table.numbered.containers;
  same : by_scope (table_entries l.table) (meant l.family) (path_at l.table.numbered.containers l.within) l.name
      ≡ by_scope (table_entries l.table) (meant l.family) (path_at l.table.numbered.containers l.fn.innermost) l.name;
}

abbrev pub decreases-loop-outer : goal.decreases-loop-outer
decreases-loop-outer l = l.within
