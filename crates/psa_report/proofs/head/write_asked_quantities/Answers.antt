use Rattle.std.proofs.Common.{[], ◌++◌, codes, ap, rules}
use Rattle.psa_number.specs.Operations.{decimal_ends}
use Rattle.psa_number.specs.DecimalText.{text_of_units}
use Rattle.psa_model.specs.Quantities.{cut_off_units}
use Rattle.psa_model.specs.Report.{ends_text}
use Rattle.psa_report.proofs.PartLemmas.{quantities-in-parts}
use Rattle.psa_report.proofs.WrittenLemmas.{left-of, left-stop, left-next, left-last, written-as}
use Rattle.psa_report.proofs.head.write_asked_quantities.Goals as goal

pub returns-in_err-put_one : goal.returns-in_err-put_one
returns-in_err-put_one g c =
    left-stop _ _ _ _ _ _ (codes "mission-time ") (ends_text (decimal_ends c.args.settings.now.mission) ++ (codes "\ncut-off " ++ (text_of_units (cut_off_units c.args.settings.now.cut_off) ++ (codes "\n" ++ [])))) _ c.put_one.result c.from_residual.result _
    (left-of _ _ ((codes "mission-time ") ++ (ends_text (decimal_ends c.args.settings.now.mission) ++ (codes "\ncut-off " ++ (text_of_units (cut_off_units c.args.settings.now.cut_off) ++ (codes "\n" ++ []))))) _ (quantities-in-parts (ends_text (decimal_ends c.args.settings.now.mission)) (text_of_units (cut_off_units c.args.settings.now.cut_off))))
    c.put_one.ensures c.in_err-put_one.was c.from_residual.ensures.0

pub returns-in_err-put_interval : goal.returns-in_err-put_interval
returns-in_err-put_interval g c =
    left-stop _ _ _ _ _ _ (ends_text (decimal_ends c.args.settings.now.mission)) (codes "\ncut-off " ++ (text_of_units (cut_off_units c.args.settings.now.cut_off) ++ (codes "\n" ++ []))) _ c.put_interval.result c.from_residual-in_err-put_interval.result _
    (left-next _ _ _ _ _ _ (codes "mission-time ") (ends_text (decimal_ends c.args.settings.now.mission) ++ (codes "\ncut-off " ++ (text_of_units (cut_off_units c.args.settings.now.cut_off) ++ (codes "\n" ++ [])))) _ c.put_one.result _
    (left-of _ _ ((codes "mission-time ") ++ (ends_text (decimal_ends c.args.settings.now.mission) ++ (codes "\ncut-off " ++ (text_of_units (cut_off_units c.args.settings.now.cut_off) ++ (codes "\n" ++ []))))) _ (quantities-in-parts (ends_text (decimal_ends c.args.settings.now.mission)) (text_of_units (cut_off_units c.args.settings.now.cut_off))))
    c.put_one.ensures c.in_ok-put_one.was)
    (written-as _ _ _ _ _ (ends_text (decimal_ends c.args.settings.now.mission)) c.put_interval.result c.put_interval.ensures (ap ends_text c.interval_of.ensures.exact)) c.in_err-put_interval.was c.from_residual-in_err-put_interval.ensures.0

pub returns : goal.returns
returns g c =
    left-last _ _ _ _ _ _ (codes "\ncut-off " ++ (text_of_units (cut_off_units c.args.settings.now.cut_off) ++ (codes "\n" ++ []))) _ c.put_all.result
    (left-next _ _ _ _ _ _ (ends_text (decimal_ends c.args.settings.now.mission)) (codes "\ncut-off " ++ (text_of_units (cut_off_units c.args.settings.now.cut_off) ++ (codes "\n" ++ []))) _ c.put_interval.result _
    (left-next _ _ _ _ _ _ (codes "mission-time ") (ends_text (decimal_ends c.args.settings.now.mission) ++ (codes "\ncut-off " ++ (text_of_units (cut_off_units c.args.settings.now.cut_off) ++ (codes "\n" ++ [])))) _ c.put_one.result _
    (left-of _ _ ((codes "mission-time ") ++ (ends_text (decimal_ends c.args.settings.now.mission) ++ (codes "\ncut-off " ++ (text_of_units (cut_off_units c.args.settings.now.cut_off) ++ (codes "\n" ++ []))))) _ (quantities-in-parts (ends_text (decimal_ends c.args.settings.now.mission)) (text_of_units (cut_off_units c.args.settings.now.cut_off))))
    c.put_one.ensures c.in_ok-put_one.was)
    (written-as _ _ _ _ _ (ends_text (decimal_ends c.args.settings.now.mission)) c.put_interval.result c.put_interval.ensures (ap ends_text c.interval_of.ensures.exact)) c.in_ok-put_interval.was)
    (written-as _ _ _ _ _ (codes "\ncut-off " ++ (text_of_units (cut_off_units c.args.settings.now.cut_off) ++ (codes "\n" ++ []))) c.put_all.result c.put_all.ensures (ap (λ text. codes "\ncut-off " ++ (text ++ (codes "\n" ++ []))) (search rules)))
