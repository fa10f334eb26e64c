use Rattle.std.proofs.Common.{◌++◌, codes, refl}
use Rattle.psa_model.specs.Report.{ends_text}
use Rattle.psa_report.proofs.WrittenLemmas.{left-of, left-stop, left-next, left-last}
use Rattle.psa_report.proofs.lines.put_bounded.Goals as goal

pub returns-in_err-put_bytes : goal.returns-in_err-put_bytes
returns-in_err-put_bytes g c =
    left-stop _ _ _ _ _ _ c.args.beginning.now ((codes " " ++ ends_text c.args.bound) ++ c.args.literals.now) _ c.put_bytes.result c.from_residual.result _
    (left-of _ _ _ _ refl) c.put_bytes.ensures c.in_err-put_bytes.was c.from_residual.ensures.0

pub returns-in_err-put_some_bound : goal.returns-in_err-put_some_bound
returns-in_err-put_some_bound g c =
    left-stop _ _ _ _ _ _ (codes " " ++ ends_text c.args.bound) c.args.literals.now _ c.put_some_bound.result c.from_residual-in_err-put_some_bound.result _
    (left-next _ _ _ _ _ _ c.args.beginning.now ((codes " " ++ ends_text c.args.bound) ++ c.args.literals.now) _ c.put_bytes.result _
    (left-of _ _ _ _ refl) c.put_bytes.ensures c.in_ok-put_bytes.was)
    c.put_some_bound.ensures c.in_err-put_some_bound.was c.from_residual-in_err-put_some_bound.ensures.0

pub returns : goal.returns
returns g c =
    left-last _ _ _ _ _ _ c.args.literals.now _ c.put_bytes-2.result
    (left-next _ _ _ _ _ _ (codes " " ++ ends_text c.args.bound) c.args.literals.now _ c.put_some_bound.result _
    (left-next _ _ _ _ _ _ c.args.beginning.now ((codes " " ++ ends_text c.args.bound) ++ c.args.literals.now) _ c.put_bytes.result _
    (left-of _ _ _ _ refl) c.put_bytes.ensures c.in_ok-put_bytes.was)
    c.put_some_bound.ensures c.in_ok-put_some_bound.was)
    c.put_bytes-2.ensures
