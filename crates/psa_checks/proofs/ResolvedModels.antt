-- What is the model of a draft without a fault of names has what is promised of a model.
use Rattle.std.proofs.Common.{◌≡◌, None, sym, subst}
use Rattle.psa_model.specs.declared.draft.Draft.{Draft}
use Rattle.psa_model.specs.declared.model.Model.{Model}
use Rattle.psa_model.specs.Drafts.{IsDraft}
use Rattle.psa_model.specs.Models.{IsModel, IsOfSize}
use Rattle.psa_names.specs.ModelOfDraft.{model_of}
use Rattle.psa_names.specs.NameFaults.{name_fault}
use Rattle.psa_checks.proofs.ModelPromise.{promised}
use Rattle.psa_checks.proofs.ModelSize.{of-size}

-- it has what is promised
pub is-model : (draft : Draft) (model : Model) → IsDraft draft → name_fault draft ≡ None
    → model ≡ model_of draft → IsModel model
is-model draft model is none same = subst IsModel (sym same) (promised draft is none)

-- it is within the limit of size
pub is-of-size : (draft : Draft) (model : Model) → IsDraft draft → name_fault draft ≡ None
    → model ≡ model_of draft → IsOfSize model
is-of-size draft model is none same = subst IsOfSize (sym same) (of-size draft is none)
