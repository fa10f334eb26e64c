use Rattle.psa_text.proofs.OneOutcome.{reads_once}
use Rattle.psa_outcome.proofs.RowLemmas.{lines-same, rows-exclude}
use Rattle.psa_outcome.proofs.laws.fault_lines_are_determined.Goals as goal

pub returns-clause-line : goal.returns-clause-line
returns-clause-line c settings run files line other is p q = lines-same reads_once settings run files line other is p q

pub returns-clause-apart : goal.returns-clause-apart
returns-clause-apart c settings run table files line other is p q = rows-exclude reads_once settings run table files line other is p q
