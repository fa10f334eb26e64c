use Rattle.std.proofs.Common.{◌≡◌, ◌+◌, take, slice_get}
use Rattle.std.specs.List.{filter_map}
use Rattle.psa_elements.specs.DraftReading.{definitions_in, initial_state_of}
use Rattle.psa_draft_parts.specs.Rows.{event_tree_rows}
use Rattle.psa_draft_parts.specs.Sayings.{sizes_of, readings_among}
use Rattle.psa_draft_parts.specs.Starts.{around_of}
use Rattle.psa_drafts.proofs.definitions.event_tree.Given as goal

abbrev pub invariant-loop-child : goal.invariant-loop-child
invariant-loop-child l = record {
  counted : l.reader.number ≡ (l.fn.reader.number + 1) + sizes_of (take l.child-index l.children);
  said : l.inside ≡ definitions_in (readings_among event_tree_rows (around_of l.inner) (l.fn.reader.number + 1)
      (take l.child-index l.children));
  started : l.state ≡ slice_get (filter_map initial_state_of (readings_among event_tree_rows (around_of l.inner)
      (l.fn.reader.number + 1) (take l.child-index l.children))) 0;
}
