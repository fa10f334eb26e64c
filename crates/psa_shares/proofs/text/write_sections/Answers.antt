use Rattle.std.proofs.Common.{sym, subst, arith}
use Rattle.std.specs.Prelude.{Result}
use Rattle.psa_outcome.specs.Loading.{loaded_analysis}
use Rattle.psa_sections.proofs.LoadedLemmas.{count-all, target-at}
use Rattle.psa_sections.proofs.TargetLemmas.{turned}
use Rattle.psa_shares.specs.declared.text.TextError.{TextError}
use Rattle.psa_shares.specs.ShareText.{IsSharesText}
use Rattle.psa_engine.specs.TextEnds.{EndsText}
use Rattle.psa_shares.specs.SectionEnds.{end_by}
use Rattle.psa_shares.proofs.TextLemmas.{all-sections, no-shares, one-more-section, stops}
use Rattle.psa_shares.proofs.text.write_sections.Goals as goal

pub loop-place-init : goal.loop-place-init
loop-place-init g c = record {
  shares = no-shares (loaded_analysis c.args.loaded.now) (g.O.Sink.faults c.args.out.now) (g.O.Sink.written c.args.out.now);
  bounded = c.requires.bounded;
}

pub write_target-requires-clause-bounded : goal.write_target-requires-clause-bounded
write_target-requires-clause-bounded g c = c.loop-place.invariant.bounded

pub returns-in_err-write_target-clause-ends : goal.returns-in_err-write_target-clause-ends
returns-in_err-write_target-clause-ends g c before head =
    let t = target-at c.args.loaded.now c.requires.loaded c.loop-place.place c.len-place-end.result c.len-place-end.ensures c.loop-place-test.true in
    subst (λ (r : Result (Unit {0}) TextError). EndsText IsSharesText (loaded_analysis c.args.loaded.now) (g.O.Sink.faults c.args.out.now, g.O.Sink.faults c.write_target.new.out) before (g.O.Sink.written c.write_target.new.out) (end_by r))
    (sym (turned c.from_residual.result c.in_err-write_target.field-0.0 c.from_residual.ensures.1))
    (stops (loaded_analysis c.args.loaded.now) c.loop-place.place t.0 (g.O.Sink.faults c.args.out.now) (g.O.Sink.faults c.loop-place.out) (g.O.Sink.faults c.write_target.new.out) (g.O.Sink.written c.args.out.now) (g.O.Sink.written c.loop-place.out) (g.O.Sink.written c.write_target.new.out) t.2 c.loop-place.invariant.shares c.write_target.ensures.later before head c.write_target.result c.in_err-write_target.field-0.0 c.in_err-write_target.was (c.write_target.ensures.writes t.0 t.1))

pub returns-in_err-write_target-clause-later : goal.returns-in_err-write_target-clause-later
returns-in_err-write_target-clause-later g c =
    let sooner = c.loop-place.invariant.shares.later in
    let later = c.write_target.ensures.later in
    omega (arith, sooner, later)

pub loop-place-preserved : goal.loop-place-preserved
loop-place-preserved g c =
    let t = target-at c.args.loaded.now c.requires.loaded c.loop-place.place c.len-place-end.result c.len-place-end.ensures c.loop-place-test.true in
    record {
      shares = one-more-section (loaded_analysis c.args.loaded.now) c.loop-place.place t.0 (g.O.Sink.faults c.args.out.now) (g.O.Sink.faults c.loop-place.out) (g.O.Sink.faults c.write_target.new.out) (g.O.Sink.written c.args.out.now) (g.O.Sink.written c.loop-place.out) (g.O.Sink.written c.write_target.new.out) t.2 c.loop-place.invariant.shares c.write_target.ensures.later c.write_target.result c.in_ok-write_target.was (c.write_target.ensures.writes t.0 t.1);
      bounded = c.write_target.ensures.bounded;
    }

pub returns-clause-ends : goal.returns-clause-ends
returns-clause-ends g c before head =
    all-sections (loaded_analysis c.args.loaded.now) c.loop-place.place (g.O.Sink.faults c.args.out.now) (g.O.Sink.faults c.loop-place.out) (g.O.Sink.written c.args.out.now) (g.O.Sink.written c.loop-place.out) before
    (count-all c.args.loaded.now c.requires.loaded c.loop-place.place c.len-place-end.result c.loop-place.auto.place-end c.loop-place-test.false c.len-place-end.ensures)
    head c.loop-place.invariant.shares

pub returns-clause-later : goal.returns-clause-later
returns-clause-later g c = c.loop-place.invariant.shares.later
