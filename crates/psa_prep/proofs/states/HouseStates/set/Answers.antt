use Rattle.std.proofs.Common.{◌<◌, Bool, not, length, reverse, ap, ◌∙◌, arith}
use Rattle.psa_model.specs.Formulas.{is_same}
use Rattle.psa_model.specs.Truth.{house_states}
use Rattle.psa_prep.proofs.PlaceLemmas.{if-ok}
use Rattle.psa_prep.proofs.StateLemmas.{set-with, states-length}
use Rattle.psa_prep.proofs.states.HouseStates.set.Goals as goal

pub returns : goal.returns
returns c =
    let inside : c.args.house.0 < length (house_states c.args.expanded.now.model) = omega (arith, states-length c.args.expanded.now.model, c.requires.house) in
    if-ok c.with.result _ _
    (λ next is. set-with (house_states c.args.expanded.now.model) (reverse c.args.self.now.changes.keys) (reverse c.with.new.self.changes.keys) c.args.number c.args.house.0 next c.args.state (not c.is_state-changed.result)
    c.requires.states c.requires.number inside (ap not c.is_state-changed.ensures ∙ ap (λ (s : Bool). not (is_same s c.args.state)) c.model_state.ensures) is) c.with.ensures
