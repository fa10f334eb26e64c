use Rattle.std.proofs.Common.{◌≡◌, ◌∙◌, subst, sym, refl}
use Rattle.psa_outcome.specs.Loading.{loaded_analysis}
use Rattle.psa_engine.specs.declared.end.End.{End}
use Rattle.psa_engine.proofs.FewTargets.{few-loaded-events, few-targets}
use Rattle.psa_shares.specs.ShareText.{IsSharesText}
use Rattle.psa_engine.specs.TextEnds.{EndsText, begun, unbegun}
use Rattle.psa_engine.proofs.EndRows.{passed-on}
use Rattle.psa_shares.proofs.run.run_loaded.Goals as goal

pub of-requires : goal.of-requires
of-requires g c = few-loaded-events c.args.loaded.now c.requires.loaded

pub returns-in_default-clause-ends : goal.returns-in_default-clause-ends
returns-in_default-clause-ends g c = unbegun refl

pub write_text-requires-clause-events : goal.write_text-requires-clause-events
write_text-requires-clause-events g c = few-loaded-events c.args.loaded.now c.requires.loaded

pub write_text-requires-clause-targets : goal.write_text-requires-clause-targets
write_text-requires-clause-targets g c = few-targets c.args.loaded.now c.requires.loaded

pub returns-clause-ends : goal.returns-clause-ends
returns-clause-ends g c =
    begun c.pass_on.result
    (passed-on IsSharesText (loaded_analysis c.args.loaded.now) (g.O.Sink.faults c.args.out.now) (g.O.Sink.faults c.write_text.new.out) (g.O.Sink.faults c.pass_on.new.out) (g.O.Sink.written c.args.out.now) (g.O.Sink.written c.write_text.new.out) (g.O.Sink.written c.pass_on.new.out) c.end_of-end.result c.pass_on.result
    (subst (EndsText IsSharesText (loaded_analysis c.args.loaded.now) (g.O.Sink.faults c.args.out.now, g.O.Sink.faults c.write_text.new.out) (g.O.Sink.written c.args.out.now) (g.O.Sink.written c.write_text.new.out)) (sym c.end_of-end.ensures) c.write_text.ensures.ends)
    c.write_text.ensures.later c.pass_on.ensures.end)
