use Rattle.std.proofs.Common.{◌≡◌, None, sym, subst}
use Rattle.std.specs.Prelude.{IfOk}
use Rattle.psa_model.specs.Drafts.{IsDraft}
use Rattle.psa_model.specs.declared.draft.Draft.{Draft}
use Rattle.psa_names.specs.Found.{IsFound}
use Rattle.psa_names.specs.ModelOfDraft.{model_of}
use Rattle.psa_names.specs.NameFaults.{name_fault}
use Rattle.psa_bodies.specs.Contents.{HasContentsOrder}
use Rattle.psa_assembly.proofs.FewNumbers.{few-numbers}
use Rattle.psa_assembly.proofs.model.model_of_found.Goals as goal

pub places_of_kind-requires : goal.places_of_kind-requires
places_of_kind-requires c = record { few = few-numbers c.args.draft.now c.in_ok-numbers.numbers c.requires.draft c.requires.faultless c.in_ok-numbers.ensures }

pub places_of_kind-requires-2 : goal.places_of_kind-requires-2
places_of_kind-requires-2 c = record { few = few-numbers c.args.draft.now c.in_ok-numbers.numbers c.requires.draft c.requires.faultless c.in_ok-numbers.ensures }

pub model_in-requires-clause-draft : goal.model_in-requires-clause-draft
model_in-requires-clause-draft c = subst (λ (d : Draft). IsDraft d) (sym c.context_of-context.ensures.draft) c.requires.draft

pub model_in-requires-clause-faultless : goal.model_in-requires-clause-faultless
model_in-requires-clause-faultless c =
    subst (λ (d : Draft). name_fault d ≡ None) (sym c.context_of-context.ensures.draft) c.requires.faultless

pub model_in-requires-clause-found : goal.model_in-requires-clause-found
model_in-requires-clause-found c =
    subst (λ (d : Draft). IsFound d c.args.found.now) (sym c.context_of-context.ensures.draft) c.requires.found

pub model_in-requires-clause-contents : goal.model_in-requires-clause-contents
model_in-requires-clause-contents c =
    subst (λ (d : Draft). HasContentsOrder d c.in_ok-contents.contents) (sym c.context_of-context.ensures.draft) c.in_ok-contents.ensures

pub returns : goal.returns
returns c = subst (λ (d : Draft). IfOk c.model_in.result (λ model. model ≡ model_of d)) c.context_of-context.ensures.draft c.model_in.ensures
