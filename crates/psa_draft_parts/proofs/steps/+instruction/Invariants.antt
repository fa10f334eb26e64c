use Rattle.std.proofs.Common.{◌≡◌, ◌+◌, take, slice_get, ◌++◌}
use Rattle.std.specs.List.{filter_map}
use Rattle.psa_elements.specs.DraftReading.{instructions_in, test_of}
use Rattle.psa_elements.specs.ElementTable.{instructions, tests}
use Rattle.psa_draft_parts.specs.Sayings.{sizes_of, readings_among}
use Rattle.psa_draft_parts.specs.Starts.{around_of}
use Rattle.psa_draft_parts.proofs.steps.+instruction.Given as goal

abbrev pub invariant-instructions-loop-child : goal.invariant-instructions-loop-child
invariant-instructions-loop-child l = record {
  counted : l.reader.number ≡ (l.fn.reader.number + 1) + sizes_of (take l.child-index l.children);
  said : l.all ≡ instructions_in (readings_among instructions (around_of l.around) (l.fn.reader.number + 1) (take
      l.child-index l.children));
}

abbrev pub invariant-conditional-loop-child : goal.invariant-conditional-loop-child
invariant-conditional-loop-child l = record {
  counted : l.reader.number ≡ (l.fn.reader.number + 1) + sizes_of (take l.child-index l.children);
  tested : l.test ≡ slice_get (filter_map test_of (readings_among (tests ++ instructions) (around_of l.around)
      (l.fn.reader.number + 1) (take l.child-index l.children))) 0;
  said : l.inside ≡ instructions_in (readings_among (tests ++ instructions) (around_of l.around)
      (l.fn.reader.number + 1) (take l.child-index l.children));
}
