use Rattle.std.proofs.Common.{List, Option, flat_map, take, sym, ap, ◌∙◌}
use Rattle.std.specs.Option.{option_map}
use Rattle.psa_names.specs.Outlines.{ForkState}
use Rattle.psa_names.specs.PlacedFaults.{PlacedFault, earliest}
use Rattle.psa_lookup.specs.declared.states.State.{State}
use Rattle.psa_lookup.specs.Repeats.{state_repeat}
use Rattle.psa_lookup.specs.Sooner.{placed_fault, sooner_of}
use Rattle.psa_lookup.specs.States.{first_spot, fork_state, fork_states}
use Rattle.psa_lookup.proofs.BoolLemmas.{one-more-taken, map-one}
use Rattle.psa_lookup.proofs.PositionLemmas.{soonest-one}
use Rattle.psa_lookup.proofs.duplicates.soonest_of_states.Goals as goal

pub loop-state-preserved : goal.loop-state-preserved
loop-state-preserved c =
    let at = c.loop-state in
    let one = c.state-item.result in
    let least = first_spot c.args.least.now in
    let before = take at.state-index c.args.states.now in
    c.sooner-soonest.ensures
    ∙ ap (λ (o : Option PlacedFault). sooner_of o (option_map placed_fault c.state_fault.result)) at.invariant
    ∙ ap (λ (o : Option PlacedFault). sooner_of (sooner_of (option_map placed_fault c.args.first) (earliest (flat_map (state_repeat least) (fork_states before)))) o) c.state_fault.ensures
    ∙ soonest-one (state_repeat least) (option_map placed_fault c.args.first) (fork_states before) (fork_state one)
    ∙ ap (λ (xs : List ForkState). sooner_of (option_map placed_fault c.args.first) (earliest (flat_map (state_repeat least) xs)))
    (sym (map-one fork_state before one) ∙ ap (λ (xs : List State). fork_states xs) (sym (one-more-taken c.args.states.now at.state-index one c.loop-state-test.true c.state-item.is)))
