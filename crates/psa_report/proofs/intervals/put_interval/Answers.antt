use Rattle.std.proofs.Common.{rules}
use Rattle.psa_report.proofs.WrittenLemmas.{written-as}
use Rattle.psa_report.proofs.PartLemmas.{interval-in-parts}
use Rattle.psa_report.proofs.intervals.put_interval.Goals as goal

pub returns : goal.returns
returns g c =
    written-as _ _ _ _ _ _ _ c.put_all.ensures (interval-in-parts _ _ _ _ (search rules) (search rules))
