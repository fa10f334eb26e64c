use Rattle.std.proofs.Common.{sym, ◌∙◌}
use Rattle.psa_shape.proofs.RowLemmas.{find-in_part, find-past_part}
use Rattle.psa_shape.proofs.table.row_in_parts.Goals as goal

pub returns-in-Some : goal.returns-in-Some
returns-in-Some c =
    sym (find-in_part c.args.tag.now c.args.parts.now c.loop-part.part-index _ _ c.loop-part-test.true
    (sym c.in-Some.ensures)) ∙ c.loop-part.invariant

pub loop-part-preserved : goal.loop-part-preserved
loop-part-preserved c =
    sym (find-past_part c.args.tag.now c.args.parts.now c.loop-part.part-index _ c.loop-part-test.true
    (sym c.in_default.ensures)) ∙ c.loop-part.invariant
