use Rattle.std.proofs.Common.{◌≡◌, ◌+◌, take, slice_get}
use Rattle.std.specs.List.{filter_map, flat_map}
use Rattle.psa_elements.specs.DraftReading.{members_of, distribution_of, factors_of}
use Rattle.psa_draft_parts.specs.Rows.{group_rows}
use Rattle.psa_draft_parts.specs.Sayings.{sizes_of, readings_among}
use Rattle.psa_draft_parts.specs.Starts.{around_of}
use Rattle.psa_draft_parts.proofs.groups.group.Given as goal

abbrev pub invariant-loop-child : goal.invariant-loop-child
invariant-loop-child l = record {
  counted : l.reader.number ≡ (l.fn.reader.number + 1) + sizes_of (take l.child-index l.children);
  members : l.all_members ≡ flat_map members_of (readings_among group_rows (around_of l.around) (l.fn.reader.number
      + 1) (take l.child-index l.children));
  distributed : l.distribution ≡ slice_get (filter_map distribution_of (readings_among group_rows (around_of
      l.around) (l.fn.reader.number + 1) (take l.child-index l.children))) 0;
  factored : l.all_factors ≡ flat_map factors_of (readings_among group_rows (around_of l.around)
      (l.fn.reader.number + 1) (take l.child-index l.children));
}
