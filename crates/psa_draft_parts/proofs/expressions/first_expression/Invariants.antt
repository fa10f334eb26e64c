use Rattle.std.proofs.Common.{◌≡◌, ◌+◌, take, slice_get}
use Rattle.psa_elements.specs.DraftReading.{expressions_in}
use Rattle.psa_elements.specs.ElementTable.{expressions}
use Rattle.psa_draft_parts.specs.Sayings.{sizes_of, readings_among}
use Rattle.psa_draft_parts.specs.Starts.{around_of}
use Rattle.psa_draft_parts.proofs.expressions.first_expression.Given as goal

abbrev pub invariant-loop-child : goal.invariant-loop-child
invariant-loop-child l = record {
  counted : l.reader.number ≡ (l.fn.reader.number + 1) + sizes_of (take l.child-index l.children);
  said : l.first ≡ slice_get (expressions_in (readings_among expressions (around_of l.around) (l.fn.reader.number +
      1) (take l.child-index l.children))) 0;
}
