use Rattle.std.proofs.Common.{drop}
use Rattle.psa_report.specs.Lines.{spaced_literals}
use Rattle.psa_report.proofs.WrittenLemmas.{Left}
use Rattle.psa_report.proofs.products.put_each.Given as goal

abbrev pub invariant-loop-literal : goal.invariant-loop-literal
invariant-loop-literal g l =
    Left (g.S.Sink.written l.fn.out) (g.S.Sink.written l.out) (g.S.Sink.faults l.fn.out) (g.S.Sink.faults l.out)
    (spaced_literals (record { expanded = l.expanded; ranks = l.ranks }) (drop l.literal-index l.literals))
    (spaced_literals (record { expanded = l.expanded; ranks = l.ranks }) l.literals)
