use Rattle.std.proofs.Common.{◌==◌, ◌&&◌, ℕ, List, Some, cond, if◌then◌else◌, refl, ap, ◌∙◌}
use Rattle.std.specs.Map.{lookup}
use Rattle.std.specs.Str.{bytes_eq}
use Rattle.psa_model.specs.Drafts.{path_position}
use Rattle.psa_lookup.specs.declared.states.StateKey.{StateKey}
use Rattle.psa_lookup.specs.declared.states.Spot.{Spot}
use Rattle.psa_lookup.specs.Repeats.{lesser, same_state}
use Rattle.psa_lookup.specs.States.{first_spot, fork_state, is_key_of}
use Rattle.psa_lookup.proofs.StateLemmas.{noted-state, looked}
use Rattle.psa_lookup.proofs.states.FirstStates.note.Goals as goal

pub returns : goal.returns
returns c other =
    let noted = fork_state c.args.state in
    let old = c.self.inside.map.entries in
    let key : StateKey = record { file = other.fork.place.file; tag = other.fork.tag; name = record c.as_bytes.result { now = other.path.state } } in
    let spot : Spot = record { file = c.args.state.path.now.place.file; tag = c.args.state.path.now.tag } in
    let was = c.copied.ensures ∙ c.get.ensures.value
    ∙ ap (λ (name : List ℕ). looked old noted.fork.place.file noted.fork.tag name) c.as_bytes.ensures in
    let updates = c.in_ok-insert.ensures.updates.0 key
    ∙ ap (λ (name : List ℕ). cond (noted.fork.place.file == other.fork.place.file && (noted.fork.tag == other.fork.tag && bytes_eq name other.path.state)) (Some c.earlier_spot-first.result) (lookup (is_key_of other) old)) c.as_bytes.ensures in
    noted-state old c.insert.new.self.entries noted other spot c.earlier_spot-first.result c.copied.result was refl c.earlier_spot-first.ensures updates
    ∙ ap (λ (entries : List (StateKey × Spot)). if same_state other noted then lesser (first_spot entries other) (path_position c.args.state.path.now) else first_spot entries other) c.self.view_is
