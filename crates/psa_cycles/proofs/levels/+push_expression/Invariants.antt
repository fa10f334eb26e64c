use Rattle.std.proofs.Common.{◌≡◌, ◌+◌, [], map, take}
use Rattle.psa_model.specs.Drafts.{expression_contents}
use Rattle.psa_names.specs.Outlines.{expression_outline, joined}
use Rattle.psa_cycles.specs.Levels.{added, with_outlines}
use Rattle.psa_cycles.proofs.levels.+push_expression.Given as goal

abbrev pub decreases-push_expression : goal.decreases-push_expression
decreases-push_expression l = (expression_contents l.expression.now).nesting

abbrev pub invariant-loop-argument : goal.invariant-loop-argument
invariant-loop-argument l = l.levels ≡ with_outlines (l.around + 1) (joined (map expression_outline (take l.argument-index l.argument-items))) (added l.fn.levels [] (l.around + 1))
