use Rattle.psa_expr.proofs.Settling.{Collected}
use Rattle.psa_expr.proofs.terms.term_values.Given as goal

abbrev pub invariant-loop-term : goal.invariant-loop-term
invariant-loop-term l = Collected l.setting.mission l.setting.model.now l.group l.terms l.term-index l.known l.values
