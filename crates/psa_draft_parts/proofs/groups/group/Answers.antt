use Rattle.std.proofs.Common.{◌+◌, arith, refl, ◌∙◌}
use Rattle.psa_draft_parts.specs.Sayings.{reading_among}
use Rattle.psa_draft_parts.specs.Starts.{around_of}
use Rattle.psa_draft_parts.proofs.Passing.{next-fits, child-readable, counted-more, counted-all, first-more, several-more}
use Rattle.psa_elements.specs.DraftReading.{members_of, distribution_of, factors_of}
use Rattle.psa_draft_parts.specs.Rows.{group_rows}
use Rattle.psa_draft_parts.proofs.groups.group.Goals as goal

pub overflow_add-reader : goal.overflow_add-reader
overflow_add-reader c =
    omega (arith, next-fits c.args.reader.now.number c.args.element.now c.requires)

pub group_part-requires : goal.group_part-requires
group_part-requires c =
    child-readable c.args.reader.now.number c.args.element.now c.as_slice-children.result.now
    c.loop-child.child-index c.child-item.result c.loop-child.reader.number c.requires
    c.as_slice-children.ensures c.loop-child.invariant.counted c.loop-child-test.true c.child-item.is

pub loop-child-preserved : goal.loop-child-preserved
loop-child-preserved c =
    record {
      counted = counted-more (c.args.reader.now.number + 1) c.as_slice-children.result.now c.loop-child.child-index
          c.child-item.result c.loop-child.reader.number c.group_part.new.reader.number
          c.loop-child.invariant.counted c.loop-child-test.true c.child-item.is
          c.in_ok-group_part.ensures.counted;
      members = c.in_ok-group_part.ensures.members ∙ several-more members_of group_rows (around_of
          c.args.around.now) (c.args.reader.now.number + 1) c.as_slice-children.result.now
          c.loop-child.child-index c.child-item.result c.loop-child.reader.number c.loop-child.all_members
          (members_of (reading_among group_rows (around_of c.args.around.now) c.loop-child.reader.number
          c.child-item.result)) c.loop-child.invariant.counted c.loop-child-test.true c.child-item.is
          c.loop-child.invariant.members refl;
      distributed = c.in_ok-group_part.ensures.distributed ∙ first-more distribution_of group_rows (around_of
          c.args.around.now) (c.args.reader.now.number + 1) c.as_slice-children.result.now
          c.loop-child.child-index c.child-item.result c.loop-child.reader.number c.loop-child.distribution
          (distribution_of (reading_among group_rows (around_of c.args.around.now) c.loop-child.reader.number
          c.child-item.result)) c.loop-child.invariant.counted c.loop-child-test.true c.child-item.is
          c.loop-child.invariant.distributed refl;
      factored = c.in_ok-group_part.ensures.factored ∙ several-more factors_of group_rows (around_of
          c.args.around.now) (c.args.reader.now.number + 1) c.as_slice-children.result.now
          c.loop-child.child-index c.child-item.result c.loop-child.reader.number c.loop-child.all_factors
          (factors_of (reading_among group_rows (around_of c.args.around.now) c.loop-child.reader.number
          c.child-item.result)) c.loop-child.invariant.counted c.loop-child-test.true c.child-item.is
          c.loop-child.invariant.factored refl;
    }

pub returns-clause-counted : goal.returns-clause-counted
returns-clause-counted c =
    counted-all c.args.reader.now.number c.args.element.now c.as_slice-children.result.now c.loop-child.child-index
    c.loop-child.reader.number c.as_slice-children.ensures c.loop-child-test.false
    c.loop-child.invariant.counted
