use Rattle.std.proofs.Common.{Err, sym, subst}
use Rattle.psa_outcome.specs.Loading.{loaded_analysis}
use Rattle.psa_sections.specs.declared.report.ReportError.{ReportError}
use Rattle.psa_sections.specs.Reports.{EndsReport}
use Rattle.psa_sections.proofs.LoadedLemmas.{count-all, target-at}
use Rattle.psa_sections.proofs.SectionsLemmas.{all-sections, no-sections, one-more-section, stops}
use Rattle.psa_sections.proofs.report.write_sections.Goals as goal

pub loop-place-init : goal.loop-place-init
loop-place-init g c =
    no-sections (loaded_analysis c.args.loaded.now) c.args.table.now (g.O.Sink.faults c.args.out.now) (g.O.Sink.written c.args.out.now) c.requires.empty

pub write_target_section-requires-clause-bounded :
    goal.write_target_section-requires-clause-bounded
write_target_section-requires-clause-bounded g c = c.loop-place.invariant.bounded

pub returns-in-Err : goal.returns-in-Err
returns-in-Err g c before head =
    let t = target-at c.args.loaded.now c.requires.loaded c.loop-place.place c.len-place-end.result c.len-place-end.ensures c.loop-place-test.true in
    subst (λ (e : ReportError). EndsReport (loaded_analysis c.args.loaded.now) (c.args.table.now, c.write_target_section.new.table) (g.O.Sink.faults c.args.out.now, g.O.Sink.faults c.write_target_section.new.out) before (g.O.Sink.written c.write_target_section.new.out) (Err e)) (sym c.stopped.ensures)
    (stops (loaded_analysis c.args.loaded.now) c.loop-place.place t.0 c.args.table.now c.loop-place.table c.write_target_section.new.table (g.O.Sink.faults c.args.out.now) (g.O.Sink.faults c.loop-place.out) (g.O.Sink.faults c.write_target_section.new.out) (g.O.Sink.written c.args.out.now) (g.O.Sink.written c.loop-place.out) (g.O.Sink.written c.write_target_section.new.out) c.requires.shown t.2 c.loop-place.invariant before head c.write_target_section.result c.in-Err.error c.in-Err.is (c.write_target_section.ensures t.0 t.1))

pub loop-place-preserved : goal.loop-place-preserved
loop-place-preserved g c =
    let t = target-at c.args.loaded.now c.requires.loaded c.loop-place.place c.len-place-end.result c.len-place-end.ensures c.loop-place-test.true in
    one-more-section (loaded_analysis c.args.loaded.now) c.loop-place.place t.0 c.args.table.now c.loop-place.table c.write_target_section.new.table (g.O.Sink.faults c.args.out.now) (g.O.Sink.faults c.loop-place.out) (g.O.Sink.faults c.write_target_section.new.out) (g.O.Sink.written c.args.out.now) (g.O.Sink.written c.loop-place.out) (g.O.Sink.written c.write_target_section.new.out) c.requires.shown t.2 c.loop-place.invariant c.write_target_section.result c.in_default.is (c.write_target_section.ensures t.0 t.1)

pub returns : goal.returns
returns g c before head =
    all-sections (loaded_analysis c.args.loaded.now) c.loop-place.place c.args.table.now c.loop-place.table (g.O.Sink.faults c.args.out.now) (g.O.Sink.faults c.loop-place.out) (g.O.Sink.written c.args.out.now) (g.O.Sink.written c.loop-place.out) before
    (count-all c.args.loaded.now c.requires.loaded c.loop-place.place c.len-place-end.result c.loop-place.auto.place-end c.loop-place-test.false c.len-place-end.ensures)
    head c.loop-place.invariant
