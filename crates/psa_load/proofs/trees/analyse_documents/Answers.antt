use Rattle.std.proofs.Common.{Err, ap}
use Rattle.psa_load.specs.Files.{roots_of}
use Rattle.psa_load.proofs.AnalysisLemmas.{answered}
use Rattle.psa_load.proofs.TreeLemmas.{shape-stops, names-stop, modelled, loaded-trees}
use Rattle.psa_load.proofs.trees.analyse_documents.Goals as goal

pub returns-in_err-draft-clause-fault : goal.returns-in_err-draft-clause-fault
returns-in_err-draft-clause-fault c found same =
    shape-stops c.args.settings (roots_of c.args.documents) found
    (c.in_err-draft.ensures.fault found (ap Err (answered c.from_residual.result c.in_err-draft.field-0.0 found c.from_residual.ensures.1 same)))

pub returns-in_err-model-clause-fault : goal.returns-in_err-model-clause-fault
returns-in_err-model-clause-fault c found same =
    names-stop c.args.settings (roots_of c.args.documents) c.in_ok-draft.ensures.sound c.in_ok-draft.draft c.in_ok-draft.ensures.draft found
    (c.in_err-model.ensures.fault found (ap Err (answered c.from_residual-in_err-model.result c.in_err-model.field-0.0 found c.from_residual-in_err-model.ensures.1 same)))

pub returns-clause-loaded : goal.returns-clause-loaded
returns-clause-loaded c = c.analyse_model.ensures.loaded

pub returns-clause-settings : goal.returns-clause-settings
returns-clause-settings c = c.analyse_model.ensures.settings

pub returns-clause-analysed : goal.returns-clause-analysed
returns-clause-analysed c =
    loaded-trees c.args.settings (roots_of c.args.documents) c.in_ok-draft.ensures.sound c.in_ok-draft.draft c.in_ok-draft.ensures.draft
    c.in_ok-model.ensures.sound c.in_ok-model.model c.in_ok-model.ensures.model c.analyse_model.result
    c.analyse_model.ensures.loaded c.analyse_model.ensures.settings c.analyse_model.ensures.model

pub returns-clause-fault : goal.returns-clause-fault
returns-clause-fault c found same =
    modelled c.args.settings (roots_of c.args.documents) c.in_ok-draft.ensures.sound c.in_ok-draft.draft c.in_ok-draft.ensures.draft
    c.in_ok-model.ensures.sound c.in_ok-model.model c.in_ok-model.ensures.model (Err found)
    (c.analyse_model.ensures.fault found same)
