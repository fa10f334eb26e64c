use Rattle.std.proofs.Common.{◌≡◌, ◌++◌, ◌<◌, length}
use Rattle.psa_model.specs.PathNames.{name_parts}
use Rattle.psa_spaces.specs.Paths.{path_at}
use Rattle.psa_lookup.proofs.search.find_path.Given as goal

abbrev pub invariant-loop-part : goal.invariant-loop-part
invariant-loop-part l = record {
  stands : l.within < length l.table.numbered.containers;
  joined : path_at l.table.numbered.containers l.within ++ name_parts l.rest ≡ name_parts l.fn.name;
}

abbrev pub decreases-loop-part : goal.decreases-loop-part
decreases-loop-part l = length l.rest
