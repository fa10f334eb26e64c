use Rattle.std.proofs.Common.{◌≡◌, ◌+◌, take}
use Rattle.std.specs.List.{filter_map}
use Rattle.psa_elements.specs.DraftReading.{test_of}
use Rattle.psa_elements.specs.ElementTable.{tests}
use Rattle.psa_draft_parts.specs.Sayings.{sizes_of, readings_among}
use Rattle.psa_draft_parts.specs.Starts.{around_of}
use Rattle.psa_draft_parts.proofs.conditions.+condition.Given as goal

abbrev pub invariant-conditions-loop-child : goal.invariant-conditions-loop-child
invariant-conditions-loop-child l = record {
  counted : l.reader.number ≡ (l.fn.reader.number + 1) + sizes_of (take l.child-index l.children);
  said : l.all ≡ filter_map test_of (readings_among tests (around_of l.around) (l.fn.reader.number + 1) (take
      l.child-index l.children));
}
