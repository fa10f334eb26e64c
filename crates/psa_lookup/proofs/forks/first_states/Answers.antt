use Rattle.std.proofs.Common.{List, Option, None, map, sym, ap, ◌∙◌, take}
use Rattle.psa_model.specs.declared.draft.DraftDefinition.{DraftDefinition}
use Rattle.psa_model.specs.Drafts.{Position}
use Rattle.psa_names.specs.Outlines.{ForkState, entry_of}
use Rattle.psa_lookup.specs.declared.states.State.{State}
use Rattle.psa_lookup.specs.Repeats.{least_from, least_state, states_in}
use Rattle.psa_lookup.specs.States.{fork_states}
use Rattle.psa_lookup.proofs.BoolLemmas.{one-more-taken}
use Rattle.psa_lookup.proofs.StateLemmas.{least-append, states-one}
use Rattle.psa_lookup.proofs.forks.first_states.Goals as goal

pub loop-definition-preserved : goal.loop-definition-preserved
loop-definition-preserved c state =
    let at = c.loop-definition in
    let one = c.definition-item.result in
    c.in_ok-note_states.ensures state
    ∙ ap (λ (o : Option Position). least_from state o (fork_states c.as_slice.result.now)) (at.invariant state)
    ∙ ap (λ (xs : List ForkState). least_from state (least_state (map entry_of (take at.definition-index c.args.definitions.now)) state) xs)
    (ap (λ (xs : List State). fork_states xs) c.as_slice.ensures.value ∙ c.in_ok-collect_states.ensures)
    ∙ sym (least-append state None (states_in (map entry_of (take at.definition-index c.args.definitions.now))) _)
    ∙ ap (λ (xs : List ForkState). least_from state None xs) (sym (states-one (take at.definition-index c.args.definitions.now) one))
    ∙ ap (λ (ds : List DraftDefinition). least_state (map entry_of ds) state) (sym (one-more-taken c.args.definitions.now at.definition-index one c.loop-definition-test.true c.definition-item.is))
