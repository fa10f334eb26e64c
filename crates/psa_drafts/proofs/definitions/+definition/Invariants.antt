use Rattle.std.proofs.Common.{◌≡◌, ◌+◌, take, ◌++◌}
use Rattle.psa_elements.specs.DraftReading.{definitions_in}
use Rattle.psa_draft_parts.specs.Rows.{rows_of}
use Rattle.psa_draft_parts.specs.Sayings.{sizes_of, readings_among}
use Rattle.psa_draft_parts.specs.Starts.{around_of}
use Rattle.psa_drafts.proofs.definitions.+definition.Given as goal

abbrev pub invariant-definitions_in-loop-element : goal.invariant-definitions_in-loop-element
invariant-definitions_in-loop-element l = record {
  counted : l.reader.number ≡ l.fn.reader.number + sizes_of (take l.element-index l.elements);
  said : l.all ≡ l.fn.all ++ definitions_in (readings_among (rows_of l.inside) (around_of l.around)
      l.fn.reader.number (take l.element-index l.elements));
}
