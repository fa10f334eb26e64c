use Rattle.std.proofs.Common.{codes, refl}
use Rattle.psa_model.specs.Report.{ends_text}
use Rattle.psa_report.proofs.WrittenLemmas.{left-of, left-stop, left-next, left-last}
use Rattle.psa_report.proofs.products.put_wide_bound.Goals as goal

pub returns-in_err-put_one : goal.returns-in_err-put_one
returns-in_err-put_one g c =
    left-stop _ _ _ _ _ _ (codes " ") (ends_text c.args.bound) _ c.put_one.result c.from_residual.result _
    (left-of _ _ _ _ refl) c.put_one.ensures c.in_err-put_one.was c.from_residual.ensures.0

pub returns : goal.returns
returns g c =
    left-last _ _ _ _ _ _ (ends_text c.args.bound) _ c.put_interval.result
    (left-next _ _ _ _ _ _ (codes " ") (ends_text c.args.bound) _ c.put_one.result _ (left-of _ _ _ _ refl) c.put_one.ensures c.in_ok-put_one.was)
    c.put_interval.ensures
