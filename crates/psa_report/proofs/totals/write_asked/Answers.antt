use Rattle.std.proofs.Common.{[], ◌++◌, codes}
use Rattle.psa_model.specs.Report.{ends_text}
use Rattle.psa_report.proofs.PartLemmas.{total-in-parts}
use Rattle.psa_report.proofs.WrittenLemmas.{left-of, left-stop, left-next, left-last}
use Rattle.psa_report.proofs.totals.write_asked.Goals as goal

pub returns-in_err-put_all : goal.returns-in_err-put_all
returns-in_err-put_all g c =
    left-stop _ _ _ _ _ _ (c.args.word.now ++ (codes " " ++ [])) (ends_text c.args.total ++ codes "\n") _ c.put_all.result c.from_residual.result _
    (left-of _ _ ((c.args.word.now ++ (codes " " ++ [])) ++ (ends_text c.args.total ++ codes "\n")) _ (total-in-parts c.args.word.now (ends_text c.args.total)))
    c.put_all.ensures c.in_err-put_all.was c.from_residual.ensures.0

pub returns-in_err-put_interval : goal.returns-in_err-put_interval
returns-in_err-put_interval g c =
    left-stop _ _ _ _ _ _ (ends_text c.args.total) (codes "\n") _ c.put_interval.result c.from_residual-in_err-put_interval.result _
    (left-next _ _ _ _ _ _ (c.args.word.now ++ (codes " " ++ [])) (ends_text c.args.total ++ codes "\n") _ c.put_all.result _
    (left-of _ _ ((c.args.word.now ++ (codes " " ++ [])) ++ (ends_text c.args.total ++ codes "\n")) _ (total-in-parts c.args.word.now (ends_text c.args.total)))
    c.put_all.ensures c.in_ok-put_all.was)
    c.put_interval.ensures c.in_err-put_interval.was c.from_residual-in_err-put_interval.ensures.0

pub returns : goal.returns
returns g c =
    left-last _ _ _ _ _ _ (codes "\n") _ c.put_one.result
    (left-next _ _ _ _ _ _ (ends_text c.args.total) (codes "\n") _ c.put_interval.result _
    (left-next _ _ _ _ _ _ (c.args.word.now ++ (codes " " ++ [])) (ends_text c.args.total ++ codes "\n") _ c.put_all.result _
    (left-of _ _ ((c.args.word.now ++ (codes " " ++ [])) ++ (ends_text c.args.total ++ codes "\n")) _ (total-in-parts c.args.word.now (ends_text c.args.total)))
    c.put_all.ensures c.in_ok-put_all.was)
    c.put_interval.ensures c.in_ok-put_interval.was)
    c.put_one.ensures
