use Rattle.std.proofs.Common.{◌∙◌, ap, sym}
use Rattle.std.specs.List.{slice_get}
use Rattle.psa_prep.proofs.StateLemmas.{model-found, model-missing}
use Rattle.psa_prep.proofs.states.model_state.Goals as goal

pub returns-in-Some : goal.returns-in-Some
returns-in-Some c = model-found c.args.expanded.now.model.houses c.args.house.0 c.in-Some.house.now (ap (λ hs. slice_get hs c.args.house.0) (sym c.as_slice.ensures) ∙ sym c.in-Some.ensures)

pub returns-in-None : goal.returns-in-None
returns-in-None c = model-missing c.args.expanded.now.model.houses c.args.house.0 (ap (λ hs. slice_get hs c.args.house.0) (sym c.as_slice.ensures) ∙ sym c.in-None.ensures)
