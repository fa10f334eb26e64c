use Rattle.std.proofs.Common.{◌≡◌, ◌+◌, take}
use Rattle.psa_elements.specs.DraftReading.{formulas_in}
use Rattle.psa_elements.specs.ElementTable.{formulas}
use Rattle.psa_draft_parts.specs.Sayings.{sizes_of, readings_among}
use Rattle.psa_draft_parts.specs.Starts.{around_of}
use Rattle.psa_draft_parts.proofs.formulas.+formula.Given as goal

abbrev pub invariant-connective-loop-child : goal.invariant-connective-loop-child
invariant-connective-loop-child l = record {
  counted : l.reader.number ≡ (l.fn.reader.number + 1) + sizes_of (take l.child-index l.children);
  said : l.arguments ≡ formulas_in (readings_among formulas (around_of l.around) (l.fn.reader.number + 1) (take
      l.child-index l.children));
}
