use Rattle.std.proofs.Common.{◌<◌, true, false, length, reverse, sym, ◌∙◌, arith}
use Rattle.psa_model.specs.Truth.{house_states}
use Rattle.psa_prep.proofs.StateLemmas.{state-at, states-length}
use Rattle.psa_prep.proofs.states.HouseStates.state.Goals as goal

pub returns-then-is_changed : goal.returns-then-is_changed
returns-then-is_changed c =
    let inside : c.args.house.0 < length (house_states c.args.expanded.now.model) = omega (arith, states-length c.args.expanded.now.model, c.requires.house) in
    state-at (house_states c.args.expanded.now.model) (reverse c.args.self.now.changes.keys) c.args.number c.args.house.0 c.model_state-state.result true inside c.model_state-state.ensures
    (sym c.if-is_changed.true ∙ c.is_changed.ensures)

pub returns-else-is_changed : goal.returns-else-is_changed
returns-else-is_changed c =
    let inside : c.args.house.0 < length (house_states c.args.expanded.now.model) = omega (arith, states-length c.args.expanded.now.model, c.requires.house) in
    state-at (house_states c.args.expanded.now.model) (reverse c.args.self.now.changes.keys) c.args.number c.args.house.0 c.model_state-state.result false inside c.model_state-state.ensures
    (sym c.if-is_changed.false ∙ c.is_changed.ensures)
