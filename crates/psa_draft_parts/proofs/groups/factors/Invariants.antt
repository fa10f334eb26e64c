use Rattle.std.proofs.Common.{◌≡◌, ◌+◌, take, [], ◌∷◌, ◌++◌}
use Rattle.std.specs.List.{flat_map}
use Rattle.psa_elements.specs.DraftReading.{factors_of}
use Rattle.psa_elements.specs.ElementTable.{factor}
use Rattle.psa_draft_parts.specs.Sayings.{sizes_of, readings_among}
use Rattle.psa_draft_parts.specs.Starts.{around_of}
use Rattle.psa_draft_parts.proofs.groups.factors.Given as goal

abbrev pub invariant-loop-child : goal.invariant-loop-child
invariant-loop-child l = record {
  counted : l.reader.number ≡ (l.fn.reader.number + 1) + sizes_of (take l.child-index l.children);
  said : l.all ≡ l.fn.all ++ flat_map factors_of (readings_among (factor ∷ []) (around_of l.around)
      (l.fn.reader.number + 1) (take l.child-index l.children));
}
