use Rattle.std.proofs.Common.{◌+◌, ◌++◌, arith, [], ◌∷◌, refl, ◌∙◌}
use Rattle.psa_draft_parts.specs.Sayings.{reading_among}
use Rattle.psa_draft_parts.specs.Starts.{around_of}
use Rattle.psa_draft_parts.proofs.Passing.{next-fits, child-readable, counted-more, counted-all, picked-more, first-more}
use Rattle.psa_elements.specs.ElementTable.{instructions, to_event_tree}
use Rattle.psa_elements.specs.DraftReading.{instruction_of, link_of}
use Rattle.psa_drafts.proofs.bodies.steps_body.Goals as goal

pub overflow_add-reader : goal.overflow_add-reader
overflow_add-reader c =
    omega (arith, next-fits c.args.reader.now.number c.args.element.now c.requires)

pub steps_part-requires : goal.steps_part-requires
steps_part-requires c =
    child-readable c.args.reader.now.number c.args.element.now c.as_slice-children.result.now
    c.loop-child.child-index c.child-item.result c.loop-child.reader.number c.requires
    c.as_slice-children.ensures c.loop-child.invariant.counted c.loop-child-test.true c.child-item.is

pub loop-child-preserved : goal.loop-child-preserved
loop-child-preserved c =
    record {
      counted = counted-more (c.args.reader.now.number + 1) c.as_slice-children.result.now c.loop-child.child-index
          c.child-item.result c.loop-child.reader.number c.steps_part.new.reader.number
          c.loop-child.invariant.counted c.loop-child-test.true c.child-item.is
          c.in_ok-steps_part.ensures.counted;
      said = c.in_ok-steps_part.ensures.said ∙ picked-more instruction_of (instructions ++ to_event_tree ∷ [])
          (around_of c.args.around.now) (c.args.reader.now.number + 1) c.as_slice-children.result.now
          c.loop-child.child-index c.child-item.result c.loop-child.reader.number c.loop-child.instructions
          (instruction_of (reading_among (instructions ++ to_event_tree ∷ []) (around_of c.args.around.now)
          c.loop-child.reader.number c.child-item.result)) c.loop-child.invariant.counted
          c.loop-child-test.true c.child-item.is c.loop-child.invariant.said refl;
      linked = c.in_ok-steps_part.ensures.linked ∙ first-more link_of (instructions ++ to_event_tree ∷ [])
          (around_of c.args.around.now) (c.args.reader.now.number + 1) c.as_slice-children.result.now
          c.loop-child.child-index c.child-item.result c.loop-child.reader.number c.loop-child.link (link_of
          (reading_among (instructions ++ to_event_tree ∷ []) (around_of c.args.around.now)
          c.loop-child.reader.number c.child-item.result)) c.loop-child.invariant.counted
          c.loop-child-test.true c.child-item.is c.loop-child.invariant.linked refl;
    }

pub returns-clause-counted : goal.returns-clause-counted
returns-clause-counted c =
    counted-all c.args.reader.now.number c.args.element.now c.as_slice-children.result.now c.loop-child.child-index
    c.loop-child.reader.number c.as_slice-children.ensures c.loop-child-test.false
    c.loop-child.invariant.counted
