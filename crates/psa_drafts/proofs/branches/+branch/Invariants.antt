use Rattle.std.proofs.Common.{◌≡◌, ◌+◌, take, slice_get, ◌++◌, [], ◌∷◌}
use Rattle.std.specs.List.{filter_map}
use Rattle.psa_elements.specs.DraftReading.{instructions_in, end_of, path_of}
use Rattle.psa_elements.specs.ElementTable.{instructions, ends, path}
use Rattle.psa_draft_parts.specs.Sayings.{sizes_of, readings_among}
use Rattle.psa_draft_parts.specs.Starts.{around_of}
use Rattle.psa_drafts.proofs.branches.+branch.Given as goal

abbrev pub invariant-branch-loop-child : goal.invariant-branch-loop-child
invariant-branch-loop-child l = record {
  counted : l.reader.number ≡ (l.fn.reader.number + 1) + sizes_of (take l.child-index l.children);
  said : l.instructions ≡ instructions_in (readings_among (instructions ++ ends) (around_of l.around)
      (l.fn.reader.number + 1) (take l.child-index l.children));
  ended : l.end ≡ slice_get (filter_map end_of (readings_among (instructions ++ ends) (around_of l.around)
      (l.fn.reader.number + 1) (take l.child-index l.children))) 0;
}

abbrev pub invariant-fork_paths-loop-child : goal.invariant-fork_paths-loop-child
invariant-fork_paths-loop-child l = record {
  counted : l.reader.number ≡ (l.fn.reader.number + 1) + sizes_of (take l.child-index l.children);
  said : l.paths ≡ filter_map path_of (readings_among (path ∷ []) (around_of l.around) (l.fn.reader.number + 1)
      (take l.child-index l.children));
}
