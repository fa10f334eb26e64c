use Rattle.psa_report.proofs.lines.ProductLines.new.Goals as goal

pub invariant_of-result : goal.invariant_of-result
invariant_of-result c = c.new.ensures (record { expanded = c.args.expanded.now; ranks = c.args.ranks.now })
