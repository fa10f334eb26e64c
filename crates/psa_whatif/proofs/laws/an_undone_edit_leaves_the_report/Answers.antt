use Rattle.std.proofs.Common.{refl}
use Rattle.psa_whatif.proofs.ScriptLemmas.{report-once}
use Rattle.psa_whatif.proofs.laws.an_undone_edit_leaves_the_report.Goals as goal

pub returns-clause-edits : goal.returns-clause-edits
returns-clause-edits c edits edit = refl

pub returns-clause-report : goal.returns-clause-report
returns-clause-report c accepted edits one other text more p q r s =
    report-once accepted edits one other text more p q r s
