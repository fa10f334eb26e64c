use Rattle.psa_logic.proofs.ReportOrderLemmas.{before-irreflexive, before-trans, before-total}
use Rattle.psa_logic.proofs.laws.report_order_is_strict.Goals as goal

pub returns-clause-irreflexive : goal.returns-clause-irreflexive
returns-clause-irreflexive c = before-irreflexive

pub returns-clause-transitive : goal.returns-clause-transitive
returns-clause-transitive c = before-trans

pub returns-clause-total : goal.returns-clause-total
returns-clause-total c = before-total
