use Rattle.std.proofs.Common.{◌∙◌, ◌-◌, Err, ap, refl, subst}
use Rattle.psa_outcome.specs.Loading.{loaded_analysis}
use Rattle.psa_outcome.specs.Runs.{run_of}
use Rattle.psa_engine.proofs.CompletenessLemmas.{bad-complete, read-complete}
use Rattle.psa_shares.specs.ShareText.{IsSharesText}
use Rattle.psa_engine.proofs.EndRows.{bad-row, loaded-complete, loaded-row, not-nothing, unread-row}
use Rattle.psa_shares.proofs.run.run.Goals as goal

pub returns-in-Ok-clause-outcome : goal.returns-in-Ok-clause-outcome
returns-in-Ok-clause-outcome g c =
    let its = c.load.ensures.outcome.ok c.in-Ok.loaded c.in-Ok.is in
    loaded-row IsSharesText c.args.settings.now (run_of c.args.settings.now (g.F.Folder.texts c.args.files.now) (g.F.Folder.rest c.load.new.files) (g.F.Folder.opens c.load.new.files - g.F.Folder.opens c.args.files.now) (g.F.Folder.faults c.args.files.now, g.F.Folder.faults c.load.new.files) (g.O.Sink.faults c.args.out.now, g.O.Sink.faults c.run_loaded.new.out) (g.O.Sink.written c.args.out.now) (g.O.Sink.written c.run_loaded.new.out))
    c.in-Ok.loaded c.requires.shown its.2 c.run_loaded.result c.run_loaded.ensures.ends

pub returns-in-Ok-clause-completeness : goal.returns-in-Ok-clause-completeness
returns-in-Ok-clause-completeness g c =
    loaded-complete c.args.settings.now (run_of c.args.settings.now (g.F.Folder.texts c.args.files.now) (g.F.Folder.rest c.load.new.files) (g.F.Folder.opens c.load.new.files - g.F.Folder.opens c.args.files.now) (g.F.Folder.faults c.args.files.now, g.F.Folder.faults c.load.new.files) (g.O.Sink.faults c.args.out.now, g.O.Sink.faults c.run_loaded.new.out) (g.O.Sink.written c.args.out.now) (g.O.Sink.written c.run_loaded.new.out))
    c.load.result c.load.ensures.outcome c.in-Ok.loaded c.in-Ok.is IsSharesText (loaded_analysis c.in-Ok.loaded) c.run_loaded.result c.run_loaded.ensures.ends

pub returns-in-Ok-clause-unwritten : goal.returns-in-Ok-clause-unwritten
returns-in-Ok-clause-unwritten g c nothing =
    absurd (not-nothing IsSharesText (loaded_analysis c.in-Ok.loaded) (g.O.Sink.faults c.args.out.now, g.O.Sink.faults c.run_loaded.new.out) (g.O.Sink.written c.args.out.now) (g.O.Sink.written c.run_loaded.new.out) c.run_loaded.result c.run_loaded.ensures.ends nothing)

pub returns-in-Err-Bad-clause-outcome : goal.returns-in-Err-Bad-clause-outcome
returns-in-Err-Bad-clause-outcome g c =
    bad-row IsSharesText c.args.settings.now (run_of c.args.settings.now (g.F.Folder.texts c.args.files.now) (g.F.Folder.rest c.load.new.files) (g.F.Folder.opens c.load.new.files - g.F.Folder.opens c.args.files.now) (g.F.Folder.faults c.args.files.now, g.F.Folder.faults c.load.new.files) (g.O.Sink.faults c.args.out.now, g.O.Sink.faults c.args.out.now) (g.O.Sink.written c.args.out.now) (g.O.Sink.written c.args.out.now))
    c.in-Err-Bad.fault c.refuse_model.result refl
    (c.load.ensures.outcome.bad c.in-Err-Bad.fault (c.in-Err-Bad.is ∙ ap Err c.in-Err-Bad.field-0-is)) c.refuse_model.ensures

pub returns-in-Err-Bad-clause-completeness : goal.returns-in-Err-Bad-clause-completeness
returns-in-Err-Bad-clause-completeness g c =
    bad-complete c.args.settings.now (run_of c.args.settings.now (g.F.Folder.texts c.args.files.now) (g.F.Folder.rest c.load.new.files) (g.F.Folder.opens c.load.new.files - g.F.Folder.opens c.args.files.now) (g.F.Folder.faults c.args.files.now, g.F.Folder.faults c.load.new.files) (g.O.Sink.faults c.args.out.now, g.O.Sink.faults c.args.out.now) (g.O.Sink.written c.args.out.now) (g.O.Sink.written c.args.out.now))
    c.load.result c.load.ensures.outcome c.in-Err-Bad.fault c.refuse_model.result (c.in-Err-Bad.is ∙ ap Err c.in-Err-Bad.field-0-is) c.refuse_model.ensures

pub returns-in-Err-Read-clause-outcome : goal.returns-in-Err-Read-clause-outcome
returns-in-Err-Read-clause-outcome g c =
    let its = c.load.ensures.outcome.read c.in-Err-Read.number (c.in-Err-Read.is ∙ ap Err c.in-Err-Read.field-0-is) in
    unread-row IsSharesText c.args.settings.now (run_of c.args.settings.now (g.F.Folder.texts c.args.files.now) (g.F.Folder.rest c.load.new.files) (g.F.Folder.opens c.load.new.files - g.F.Folder.opens c.args.files.now) (g.F.Folder.faults c.args.files.now, g.F.Folder.faults c.load.new.files) (g.O.Sink.faults c.args.out.now, g.O.Sink.faults c.args.out.now) (g.O.Sink.written c.args.out.now) (g.O.Sink.written c.args.out.now))
    c.in-Err-Read.number refl its.0 its.1 its.2

pub returns-in-Err-Read-clause-completeness : goal.returns-in-Err-Read-clause-completeness
returns-in-Err-Read-clause-completeness g c =
    read-complete c.args.settings.now (run_of c.args.settings.now (g.F.Folder.texts c.args.files.now) (g.F.Folder.rest c.load.new.files) (g.F.Folder.opens c.load.new.files - g.F.Folder.opens c.args.files.now) (g.F.Folder.faults c.args.files.now, g.F.Folder.faults c.load.new.files) (g.O.Sink.faults c.args.out.now, g.O.Sink.faults c.args.out.now) (g.O.Sink.written c.args.out.now) (g.O.Sink.written c.args.out.now))
    c.load.result c.load.ensures.outcome c.in-Err-Read.number (c.in-Err-Read.is ∙ ap Err c.in-Err-Read.field-0-is)
