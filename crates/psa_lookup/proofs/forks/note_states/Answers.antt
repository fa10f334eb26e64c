use Rattle.std.proofs.Common.{List, if◌then◌else◌, sym, ap, ◌∙◌, take}
use Rattle.psa_model.specs.Drafts.{path_position}
use Rattle.psa_lookup.specs.declared.states.State.{State}
use Rattle.psa_lookup.specs.Repeats.{same_state, lesser, least_from}
use Rattle.psa_lookup.specs.States.{fork_state, fork_states, first_spot}
use Rattle.psa_lookup.proofs.BoolLemmas.{one-more-taken, map-one}
use Rattle.psa_lookup.proofs.StateLemmas.{least-one}
use Rattle.psa_lookup.proofs.forks.note_states.Goals as goal

pub loop-state-preserved : goal.loop-state-preserved
loop-state-preserved c other =
    let at = c.loop-state in
    let one = c.state-item.result in
    c.in_ok-note.ensures other
    ∙ ap (λ o. if same_state other (fork_state one) then lesser o (path_position one.path.now) else o) (at.invariant other)
    ∙ sym (least-one other (first_spot c.args.first.now other) (fork_states (take at.state-index c.args.states.now)) (fork_state one))
    ∙ ap (least_from other (first_spot c.args.first.now other))
    (sym (map-one fork_state (take at.state-index c.args.states.now) one)
    ∙ ap (λ (xs : List State). fork_states xs) (sym (one-more-taken c.args.states.now at.state-index one c.loop-state-test.true c.state-item.is)))
