use Rattle.std.proofs.Common.{[], ◌++◌, codes, min, ap, rules, if◌then◌else◌}
use Rattle.std.specs.Fmt.{decimal}
use Rattle.psa_number.specs.Operations.{complement_ends}
use Rattle.psa_model.specs.declared.product.TheConstants.{MAX_COUNT}
use Rattle.psa_model.specs.Report.{total_line}
use Rattle.psa_report.proofs.PartLemmas.{totals-in-parts}
use Rattle.psa_report.proofs.WrittenLemmas.{left-of, left-stop, left-next, left-last, written-as}
use Rattle.psa_report.proofs.totals.write_totals.Goals as goal

pub returns-in_err-put_all : goal.returns-in_err-put_all
returns-in_err-put_all g c =
    left-stop _ _ _ _ _ _ (codes "count " ++ (decimal (min c.args.totals.now.count MAX_COUNT) ++ (codes "\n" ++ []))) ((if c.args.settings.now.rare_event then total_line (codes "rare-event") c.args.totals.now.rare_event else []) ++ (if c.args.settings.now.mcub then total_line (codes "mcub") (complement_ends c.args.totals.now.rest) else [])) _ c.put_all.result c.from_residual.result _
    (left-of _ _ ((codes "count " ++ (decimal (min c.args.totals.now.count MAX_COUNT) ++ (codes "\n" ++ []))) ++ ((if c.args.settings.now.rare_event then total_line (codes "rare-event") c.args.totals.now.rare_event else []) ++ (if c.args.settings.now.mcub then total_line (codes "mcub") (complement_ends c.args.totals.now.rest) else []))) _ (totals-in-parts (decimal (min c.args.totals.now.count MAX_COUNT)) (if c.args.settings.now.rare_event then total_line (codes "rare-event") c.args.totals.now.rare_event else []) (if c.args.settings.now.mcub then total_line (codes "mcub") (complement_ends c.args.totals.now.rest) else [])))
    (written-as _ _ _ _ _ (codes "count " ++ (decimal (min c.args.totals.now.count MAX_COUNT) ++ (codes "\n" ++ []))) c.put_all.result c.put_all.ensures (ap (λ text. codes "count " ++ (text ++ (codes "\n" ++ []))) (search rules))) c.in_err-put_all.was c.from_residual.ensures.0

pub returns-in_err-write_total : goal.returns-in_err-write_total
returns-in_err-write_total g c =
    left-stop _ _ _ _ _ _ (if c.args.settings.now.rare_event then total_line (codes "rare-event") c.args.totals.now.rare_event else []) (if c.args.settings.now.mcub then total_line (codes "mcub") (complement_ends c.args.totals.now.rest) else []) _ c.write_total.result c.from_residual-in_err-write_total.result _
    (left-next _ _ _ _ _ _ (codes "count " ++ (decimal (min c.args.totals.now.count MAX_COUNT) ++ (codes "\n" ++ []))) ((if c.args.settings.now.rare_event then total_line (codes "rare-event") c.args.totals.now.rare_event else []) ++ (if c.args.settings.now.mcub then total_line (codes "mcub") (complement_ends c.args.totals.now.rest) else [])) _ c.put_all.result _
    (left-of _ _ ((codes "count " ++ (decimal (min c.args.totals.now.count MAX_COUNT) ++ (codes "\n" ++ []))) ++ ((if c.args.settings.now.rare_event then total_line (codes "rare-event") c.args.totals.now.rare_event else []) ++ (if c.args.settings.now.mcub then total_line (codes "mcub") (complement_ends c.args.totals.now.rest) else []))) _ (totals-in-parts (decimal (min c.args.totals.now.count MAX_COUNT)) (if c.args.settings.now.rare_event then total_line (codes "rare-event") c.args.totals.now.rare_event else []) (if c.args.settings.now.mcub then total_line (codes "mcub") (complement_ends c.args.totals.now.rest) else [])))
    (written-as _ _ _ _ _ (codes "count " ++ (decimal (min c.args.totals.now.count MAX_COUNT) ++ (codes "\n" ++ []))) c.put_all.result c.put_all.ensures (ap (λ text. codes "count " ++ (text ++ (codes "\n" ++ []))) (search rules))) c.in_ok-put_all.was)
    (written-as _ _ _ _ _ (if c.args.settings.now.rare_event then total_line (codes "rare-event") c.args.totals.now.rare_event else []) c.write_total.result c.write_total.ensures (search rules)) c.in_err-write_total.was c.from_residual-in_err-write_total.ensures.0

pub returns : goal.returns
returns g c =
    left-last _ _ _ _ _ _ (if c.args.settings.now.mcub then total_line (codes "mcub") (complement_ends c.args.totals.now.rest) else []) _ c.write_total-2.result
    (left-next _ _ _ _ _ _ (if c.args.settings.now.rare_event then total_line (codes "rare-event") c.args.totals.now.rare_event else []) (if c.args.settings.now.mcub then total_line (codes "mcub") (complement_ends c.args.totals.now.rest) else []) _ c.write_total.result _
    (left-next _ _ _ _ _ _ (codes "count " ++ (decimal (min c.args.totals.now.count MAX_COUNT) ++ (codes "\n" ++ []))) ((if c.args.settings.now.rare_event then total_line (codes "rare-event") c.args.totals.now.rare_event else []) ++ (if c.args.settings.now.mcub then total_line (codes "mcub") (complement_ends c.args.totals.now.rest) else [])) _ c.put_all.result _
    (left-of _ _ ((codes "count " ++ (decimal (min c.args.totals.now.count MAX_COUNT) ++ (codes "\n" ++ []))) ++ ((if c.args.settings.now.rare_event then total_line (codes "rare-event") c.args.totals.now.rare_event else []) ++ (if c.args.settings.now.mcub then total_line (codes "mcub") (complement_ends c.args.totals.now.rest) else []))) _ (totals-in-parts (decimal (min c.args.totals.now.count MAX_COUNT)) (if c.args.settings.now.rare_event then total_line (codes "rare-event") c.args.totals.now.rare_event else []) (if c.args.settings.now.mcub then total_line (codes "mcub") (complement_ends c.args.totals.now.rest) else [])))
    (written-as _ _ _ _ _ (codes "count " ++ (decimal (min c.args.totals.now.count MAX_COUNT) ++ (codes "\n" ++ []))) c.put_all.result c.put_all.ensures (ap (λ text. codes "count " ++ (text ++ (codes "\n" ++ []))) (search rules))) c.in_ok-put_all.was)
    (written-as _ _ _ _ _ (if c.args.settings.now.rare_event then total_line (codes "rare-event") c.args.totals.now.rare_event else []) c.write_total.result c.write_total.ensures (search rules)) c.in_ok-write_total.was)
    (written-as _ _ _ _ _ (if c.args.settings.now.mcub then total_line (codes "mcub") (complement_ends c.args.totals.now.rest) else []) c.write_total-2.result c.write_total-2.ensures (search rules))
