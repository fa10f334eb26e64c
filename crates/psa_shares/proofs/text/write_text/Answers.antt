use Rattle.std.proofs.Common.{arith, subst, sym}
use Rattle.std.specs.Prelude.{Result}
use Rattle.psa_outcome.specs.Loading.{loaded_analysis}
use Rattle.psa_sections.proofs.TargetLemmas.{turned}
use Rattle.psa_shares.specs.declared.text.TextError.{TextError}
use Rattle.psa_shares.specs.declared.text.TextError.TheVariants.{Write}
use Rattle.psa_shares.specs.ShareText.{IsSharesText}
use Rattle.psa_engine.specs.TextEnds.{EndsText}
use Rattle.psa_shares.specs.SectionEnds.{end_by}
use Rattle.psa_engine.proofs.EndRows.{sooner-end}
use Rattle.psa_shares.proofs.TextLemmas.{head-first, head-part, new-bounded}
use Rattle.psa_shares.proofs.text.write_text.Goals as goal

pub returns-in_err-write_head-clause-ends : goal.returns-in_err-write_head-clause-ends
returns-in_err-write_head-clause-ends g c =
    subst (λ (r : Result (Unit {0}) TextError). EndsText IsSharesText (loaded_analysis c.args.loaded.now) (g.O.Sink.faults c.args.out.now, g.O.Sink.faults c.write_head.new.out) (g.O.Sink.written c.args.out.now) (g.O.Sink.written c.write_head.new.out) (end_by r))
    (sym (turned c.from_residual.result Write c.from_residual.ensures.1))
    (c.in_err-write_head.ensures.cause.failed, head-part (loaded_analysis c.args.loaded.now) (g.O.Sink.written c.args.out.now) (g.O.Sink.written c.write_head.new.out) c.in_err-write_head.ensures.part)

pub write_sections-requires-clause-bounded : goal.write_sections-requires-clause-bounded
write_sections-requires-clause-bounded g c = new-bounded c.new-table.result c.new-table.ensures

pub returns-clause-ends : goal.returns-clause-ends
returns-clause-ends g c =
    sooner-end IsSharesText (loaded_analysis c.args.loaded.now) (g.O.Sink.faults c.args.out.now) (g.O.Sink.faults c.write_head.new.out) (g.O.Sink.faults c.write_sections.new.out) (g.O.Sink.written c.args.out.now) (g.O.Sink.written c.write_sections.new.out) (end_by c.write_sections.result)
    c.in_ok-write_head.ensures.cause.later
    (c.write_sections.ensures.ends (g.O.Sink.written c.args.out.now)
    (head-first (loaded_analysis c.args.loaded.now) (g.O.Sink.written c.args.out.now) (g.O.Sink.written c.write_head.new.out) c.in_ok-write_head.ensures.whole))

pub returns-clause-later : goal.returns-clause-later
returns-clause-later g c =
    let sooner = c.in_ok-write_head.ensures.cause.later in
    let later = c.write_sections.ensures.later in
    omega (arith, sooner, later)
