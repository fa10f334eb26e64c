use Rattle.std.proofs.Common.{rules}
use Rattle.psa_report.proofs.LineLemmas.{spaced-joined}
use Rattle.psa_report.proofs.WrittenLemmas.{written-as}
use Rattle.psa_report.proofs.products.put_literals.Goals as goal

pub returns : goal.returns
returns g c =
    written-as _ _ _ _ _ _ _ c.put_each.ensures (spaced-joined (record { expanded = c.args.expanded.now; ranks = c.args.ranks.now }) c.args.literals.now (search rules))
