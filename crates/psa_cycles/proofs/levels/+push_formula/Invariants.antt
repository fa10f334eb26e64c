use Rattle.std.proofs.Common.{◌≡◌, ◌+◌, [], map, take}
use Rattle.psa_model.specs.Drafts.{formula_contents}
use Rattle.psa_names.specs.Outlines.{formula_outline, joined}
use Rattle.psa_cycles.specs.Levels.{added, with_outlines}
use Rattle.psa_cycles.proofs.levels.+push_formula.Given as goal

abbrev pub decreases-push_formula : goal.decreases-push_formula
decreases-push_formula l = (formula_contents l.formula.now).nesting

abbrev pub invariant-loop-argument : goal.invariant-loop-argument
invariant-loop-argument l = l.levels ≡ with_outlines (l.around + 1) (joined (map formula_outline (take l.argument-index l.argument-items))) (added l.fn.levels [] (l.around + 1))
