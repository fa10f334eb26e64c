use Rattle.std.proofs.Common.{◌+◌, ◌*◌}
use Rattle.psa_expr.proofs.Evaluating.{Gathered}
use Rattle.psa_expr.proofs.evaluation.+evaluation.Given as goal

abbrev pub decreases-argument_values : goal.decreases-argument_values
decreases-argument_values l = 3 * l.depth + 2

abbrev pub decreases-expression_value : goal.decreases-expression_value
decreases-expression_value l = 3 * l.depth + 1

abbrev pub decreases-parameter_value : goal.decreases-parameter_value
decreases-parameter_value l = 3 * l.depth

abbrev pub invariant-argument_values-loop-argument : goal.invariant-argument_values-loop-argument
invariant-argument_values-loop-argument l = Gathered l.setting.mission l.setting.model.now l.arguments l.argument-index l.known l.values
