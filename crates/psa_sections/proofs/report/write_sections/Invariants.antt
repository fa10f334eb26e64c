use Rattle.psa_outcome.specs.Loading.{loaded_analysis}
use Rattle.psa_sections.specs.Reports.{HasSections}
use Rattle.psa_sections.proofs.report.write_sections.Given as goal

-- the targets before the place have their sections
abbrev pub invariant-loop-place : goal.invariant-loop-place
invariant-loop-place g l =
    HasSections (loaded_analysis l.loaded) l.place (l.fn.table, l.table) (g.O.Sink.faults l.fn.out, g.O.Sink.faults l.out) (g.O.Sink.written l.fn.out) (g.O.Sink.written l.out)
