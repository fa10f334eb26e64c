use Rattle.std.proofs.Common.{rules}
use Rattle.psa_report.proofs.WrittenLemmas.{written-as}
use Rattle.psa_report.proofs.head.write_first_lines.Goals as goal

pub returns : goal.returns
returns g c =
    written-as _ _ _ _ _ _ _ c.put_all.ensures (search rules)
