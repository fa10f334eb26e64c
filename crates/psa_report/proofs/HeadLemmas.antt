-- The first lines of a report, and those of quantities behind them.
use Rattle.std.proofs.Common.{◌≡◌, arith, ◌++◌}
use Rattle.std.proofs.lemmas.Grind.{common_steps}
use Rattle.psa_model.specs.declared.settings.Settings.{Settings}
use Rattle.psa_model.specs.Report.{head_text}
use Rattle.psa_report.specs.Head.{first_lines, quantity_lines}

-- the head is its first lines and those of quantities
pub head-in-parts : (settings : Settings) → first_lines settings ++ quantity_lines settings ≡ head_text settings
head-in-parts settings = grind (arith, common_steps)
