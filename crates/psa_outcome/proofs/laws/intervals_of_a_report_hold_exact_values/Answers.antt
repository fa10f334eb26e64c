use Rattle.psa_outcome.proofs.SettingsLemmas.{brackets}
use Rattle.psa_outcome.proofs.laws.intervals_of_a_report_hold_exact_values.Goals as goal

pub returns : goal.returns
returns c = brackets
