use Rattle.std.proofs.Common.{◌≡◌, ◌-◌, ℕ, Err, length, ap, arith}
use Rattle.psa_outcome.specs.Causes.{names_of, told_of}
use Rattle.psa_load.specs.Loads.{load_error}
use Rattle.psa_load.proofs.LoadingLemmas.{opened-more, stop-cause, loaded-cause, fault-cause, passed-cause, load-outcome, some-names, few-names}
use Rattle.psa_load.proofs.loading.load.Goals as goal

pub analyse_input-requires-clause-few : goal.analyse_input-requires-clause-few
analyse_input-requires-clause-few g c =
    let few = few-names c.args.settings.now.input c.requires.input in
    let same = c.in_ok-documents.ensures.number in omega (arith, few, same)

pub returns-in_err-documents-clause-outcome : goal.returns-in_err-documents-clause-outcome
returns-in_err-documents-clause-outcome g c =
    let told = told_of c.args.settings.now.input (g.F.Folder.texts c.args.files.now) in
    let rest = g.F.Folder.rest c.input_documents.new.files in
    let opened = g.F.Folder.opens c.input_documents.new.files - g.F.Folder.opens c.args.files.now in
    let faults : ℕ × ℕ = (g.F.Folder.faults c.args.files.now, g.F.Folder.faults c.input_documents.new.files) in
    load-outcome c.args.settings.now told rest opened faults c.from_residual.result
    (passed-cause c.args.settings.now told rest opened faults c.in_err-documents.field-0.0 c.from_residual.result c.from_residual.ensures.1
    (stop-cause c.args.settings.now told rest opened faults c.in_err-documents.field-0.0 c.in_err-documents.ensures.answer
    (λ number same. c.in_err-documents.ensures.files number (ap Err same))
    (λ number same. (
      c.in_err-documents.ensures.cause number (ap Err same),
      opened-more (g.F.Folder.opens c.args.files.now) (g.F.Folder.opens c.input_documents.new.files) number (c.in_err-documents.ensures.place number (ap Err same)),
    ))))

pub returns-in_err-analyse_input-clause-outcome : goal.returns-in_err-analyse_input-clause-outcome
returns-in_err-analyse_input-clause-outcome g c =
    let told = told_of c.args.settings.now.input (g.F.Folder.texts c.args.files.now) in
    let rest = g.F.Folder.rest c.input_documents.new.files in
    let opened = g.F.Folder.opens c.input_documents.new.files - g.F.Folder.opens c.args.files.now in
    let faults : ℕ × ℕ = (g.F.Folder.faults c.args.files.now, g.F.Folder.faults c.input_documents.new.files) in
    let some = some-names c.args.settings.now.input c.requires.input in
    let same : length c.in_ok-documents.documents ≡ length (names_of c.args.settings.now.input) = c.in_ok-documents.ensures.number in
    let answer = c.from_residual-in_err-analyse_input.result in
    let failed = c.in_err-analyse_input.field-0.0 in
    load-outcome c.args.settings.now told rest opened faults answer
    (passed-cause c.args.settings.now told rest opened faults (load_error failed) answer c.from_residual-in_err-analyse_input.ensures.1
    (fault-cause c.args.settings.now told rest opened faults c.in_ok-documents.documents c.in_ok-documents.ensures.answer failed
    (λ found is. c.in_err-analyse_input.ensures.fault found (ap Err is)) same (omega (arith, some, same))))

pub returns-clause-outcome : goal.returns-clause-outcome
returns-clause-outcome g c =
    let told = told_of c.args.settings.now.input (g.F.Folder.texts c.args.files.now) in
    let rest = g.F.Folder.rest c.input_documents.new.files in
    let opened = g.F.Folder.opens c.input_documents.new.files - g.F.Folder.opens c.args.files.now in
    let faults : ℕ × ℕ = (g.F.Folder.faults c.args.files.now, g.F.Folder.faults c.input_documents.new.files) in
    load-outcome c.args.settings.now told rest opened faults _
    (loaded-cause c.args.settings.now told rest opened faults c.in_ok-documents.documents c.in_ok-documents.ensures.answer c.in_ok-analyse_input.field-0
    c.in_ok-analyse_input.ensures.loaded c.in_ok-analyse_input.ensures.settings c.in_ok-analyse_input.ensures.analysed)
