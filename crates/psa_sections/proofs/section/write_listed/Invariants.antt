use Rattle.std.proofs.Common.{◌≡◌, flat_map, length}
use Rattle.psa_report.proofs.WrittenLemmas.{Left}
use Rattle.psa_sections.specs.Writing.{line_by}
use Rattle.psa_sections.proofs.SectionLemmas.{AreDone}
use Rattle.psa_sections.proofs.section.write_listed.Given as goal

abbrev pub invariant-loop-lines : goal.invariant-loop-lines
invariant-loop-lines g l = record {
  naming : l.lines ≡ record { expanded = l.subject.expanded.now; ranks = l.subject.ranks.now };
  bounds : l.bounds ≡ record { values = l.subject.values.now; ranks = l.subject.ranks.now };
  totals : AreDone l.subject.settings.now l.subject.values.now l.subject.ranks.now l.fn.lister.rest l.lister.rest l.totals;
  lines : Left (g.S.Sink.written l.fn.out) (g.S.Sink.written l.out) (g.S.Sink.faults l.fn.out) (g.S.Sink.faults l.out)
      (flat_map (line_by l.subject.expanded.now l.subject.values.now l.subject.ranks.now) l.lister.rest)
      (flat_map (line_by l.subject.expanded.now l.subject.values.now l.subject.ranks.now) l.fn.lister.rest);
}

abbrev pub decreases-loop-lines : goal.decreases-loop-lines
decreases-loop-lines g l = length l.lister.rest
