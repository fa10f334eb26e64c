use Rattle.std.proofs.Common.{◌≡◌, ◌+◌, take, slice_get, [], ◌∷◌, ◌++◌}
use Rattle.std.specs.List.{filter_map}
use Rattle.psa_elements.specs.DraftReading.{instructions_in, link_of}
use Rattle.psa_elements.specs.ElementTable.{instructions, to_event_tree}
use Rattle.psa_draft_parts.specs.Sayings.{sizes_of, readings_among}
use Rattle.psa_draft_parts.specs.Starts.{around_of}
use Rattle.psa_drafts.proofs.bodies.steps_body.Given as goal

abbrev pub invariant-loop-child : goal.invariant-loop-child
invariant-loop-child l = record {
  counted : l.reader.number ≡ (l.fn.reader.number + 1) + sizes_of (take l.child-index l.children);
  said : l.instructions ≡ instructions_in (readings_among (instructions ++ to_event_tree ∷ []) (around_of l.around)
      (l.fn.reader.number + 1) (take l.child-index l.children));
  linked : l.link ≡ slice_get (filter_map link_of (readings_among (instructions ++ to_event_tree ∷ []) (around_of
      l.around) (l.fn.reader.number + 1) (take l.child-index l.children))) 0;
}
