use Rattle.psa_report.proofs.WrittenLemmas.{left-of, left-stop, left-next, left-last}
use Rattle.psa_report.proofs.HeadLemmas.{head-in-parts}
use Rattle.psa_report.proofs.head.write_head.Goals as goal

pub returns-in_err-write_first_lines : goal.returns-in_err-write_first_lines
returns-in_err-write_first_lines g c =
    left-stop _ _ _ _ _ _ _ _ _ c.write_first_lines.result c.from_residual.result _ (left-of _ _ _ _ (head-in-parts c.args.settings.now))
    c.write_first_lines.ensures c.in_err-write_first_lines.was c.from_residual.ensures.0

pub returns : goal.returns
returns g c =
    left-last _ _ _ _ _ _ _ _ c.write_quantities.result
    (left-next _ _ _ _ _ _ _ _ _ c.write_first_lines.result _ (left-of _ _ _ _ (head-in-parts c.args.settings.now)) c.write_first_lines.ensures c.in_ok-write_first_lines.was)
    c.write_quantities.ensures
