use Rattle.std.proofs.Common.{◌∙◌, Err, ap, refl}
use Rattle.psa_nodes.specs.Table.{Table}
use Rattle.psa_outcome.specs.Loading.{loaded_analysis}
use Rattle.psa_engine.specs.Ends.{checked, unbegun, shown}
use Rattle.psa_engine.proofs.EndLemmas.{passed-on}
use Rattle.psa_engine.proofs.FewTargets.{few-loaded-events, few-targets}
use Rattle.psa_engine.proofs.run.run_loaded.Goals.{in-Ok-write_report, in-Err-Write, in-Err-Full, in-Err-Memory}
use Rattle.psa_engine.proofs.run.run_loaded.Goals as goal

pub returns-then-loaded-clause-ends : goal.returns-then-loaded-clause-ends
returns-then-loaded-clause-ends g c = checked c.if-loaded.true refl

pub of-requires : goal.of-requires
of-requires g c = few-loaded-events c.args.loaded.now c.requires.loaded

pub returns-in_default-clause-ends : goal.returns-in_default-clause-ends
returns-in_default-clause-ends g c = unbegun refl

pub write_report-requires-clause-events : goal.write_report-requires-clause-events
write_report-requires-clause-events g c = few-loaded-events c.args.loaded.now c.requires.loaded

pub write_report-requires-clause-targets : goal.write_report-requires-clause-targets
write_report-requires-clause-targets g c = few-targets c.args.loaded.now c.requires.loaded

pub returns-clause-ends : goal.returns-clause-ends
returns-clause-ends g c =
    shown c.pass_on.result c.if-loaded.false
    (c.write_report.ensures.limit ∙ ap (λ (t : Table). t.limit) c.restart.ensures)
    (passed-on (loaded_analysis c.args.loaded.now) c.write_report.new.table (g.O.Sink.faults c.args.out.now) (g.O.Sink.faults c.write_report.new.out) (g.O.Sink.faults c.pass_on.new.out) (g.O.Sink.written c.args.out.now) (g.O.Sink.written c.write_report.new.out) (g.O.Sink.written c.pass_on.new.out) c.match-write_report.end c.pass_on.result
    (elim c.match-write_report.branch [
      | in-Ok-write_report w ↦ rw w.end-is (rw w.in-Ok-write_report.is at c.write_report.ensures.finished)
      | in-Err-Write w ↦
          let r = c.write_report.ensures.unwritten (w.in-Err-Write.is ∙ ap Err w.in-Err-Write.field-0-is) in
          rw w.end-is (r.0, r.1)
      | in-Err-Full w ↦ rw w.end-is (c.write_report.ensures.full w.in-Err-Full.number (w.in-Err-Full.is ∙ ap Err w.in-Err-Full.field-0-is))
      | in-Err-Memory w ↦ rw w.end-is (c.write_report.ensures.memory (w.in-Err-Memory.is ∙ ap Err w.in-Err-Memory.field-0-is))
    ])
    c.write_report.ensures.later c.pass_on.ensures.end)
