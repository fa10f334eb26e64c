use Rattle.psa_model.proofs.Determined.{report-determined, report-exists}
use Rattle.psa_model.proofs.laws.each_report_is_one_text.Goals as goal

pub returns-clause-exists : goal.returns-clause-exists
returns-clause-exists c = report-exists

pub returns-clause-unique : goal.returns-clause-unique
returns-clause-unique c = report-determined
