use Rattle.std.proofs.Common.{◌≡◌, ◌+◌, ◌++◌, ◌∷◌, [], ℕ, List, Option, Some, length, get_or, map, flat_map, take, slice_get, sym, ap, ◌∙◌, arith}
use Rattle.std.proofs.lemmas.List.{length-take-le, length-map}
use Rattle.std.proofs.lemmas.Option.{slice_get-get_or}
use Rattle.std.specs.Option.{option_map}
use Rattle.psa_model.specs.declared.draft.DraftDefinition.{DraftDefinition}
use Rattle.psa_spaces.specs.Addresses.{place_of}
use Rattle.psa_names.specs.Outlines.{Entries, ForkState, entry_of}
use Rattle.psa_names.specs.PlacedFaults.{PlacedFault, earliest}
use Rattle.psa_lookup.specs.declared.states.State.{State}
use Rattle.psa_lookup.specs.Keys.{first_with, number_of}
use Rattle.psa_lookup.specs.Repeats.{is_noted_by, repeats_before, definition_repeat, state_repeat, repeats_at, repeats_from}
use Rattle.psa_lookup.specs.Sooner.{placed_fault, sooner_of}
use Rattle.psa_lookup.specs.States.{first_spot, fork_states}
use Rattle.psa_lookup.proofs.AddressLemmas.{noted-one}
use Rattle.psa_lookup.proofs.BoolLemmas.{one-more-taken, map-one}
use Rattle.psa_lookup.proofs.NumberLemmas.{numbered-at}
use Rattle.psa_lookup.proofs.PositionLemmas.{earliest-append, sooner-assoc}
use Rattle.psa_lookup.proofs.RepeatLemmas.{repeats-one, noted-by}
use Rattle.psa_lookup.proofs.duplicates.note_all.Goals as goal

pub loop-place-preserved : goal.loop-place-preserved
loop-place-preserved c =
    let at = c.loop-place in
    let paths = c.args.numbered.now.containers in
    let numbers = c.as_slice-numbers.result.now in
    let ds = c.args.definitions.now in
    let one = c.index-definitions-place.result in
    let before = map entry_of (take at.place ds) in
    let least = first_spot c.args.least.now in
    let there : slice_get ds at.place ≡ Some one = slice_get-get_or ds at.place one c.loop-place-test.true ∙ ap (λ (d : DraftDefinition). Some d) (sym c.index-definitions-place.is) in
    let number : get_or numbers at.place 0 ≡ number_of paths one.container =
    ap (λ (ns : List ℕ). get_or ns at.place 0) c.as_slice-numbers.ensures ∙ numbered-at paths c.args.numbered.now.numbers ds at.place one c.requires.numbered there in
    let more : map entry_of (take (at.place + 1) ds) ≡ before ++ entry_of one ∷ [] =
    ap (λ (l : List DraftDefinition). map entry_of l) (one-more-taken ds at.place one c.loop-place-test.true c.index-definitions-place.is) ∙ map-one entry_of (take at.place ds) one in
    let size : at.place ≡ length before =
    sym (length-map (take at.place ds) entry_of ∙ length-take-le at.place ds (let low = c.loop-place-test.true in omega arith)) in
    let repeats : c.in_ok-repeats.repeats ≡ repeats_before paths before (entry_of one) =
    c.in_ok-repeats.ensures.before
    ∙ noted-by (place_of at.places) (first_with paths before) (get_or numbers at.place 0) (entry_of one) at.invariant.places
    ∙ ap (λ n. is_noted_by (first_with paths before) n (entry_of one)) number in
    let states : fork_states c.as_slice.result.now ≡ (entry_of one).states = ap (λ (l : List State). fork_states l) c.as_slice.ensures.value ∙ c.in_ok-collect_states.ensures in
    record {
      places = λ address. noted-one paths before (entry_of one) at.places c.note_definition.new.places at.place (get_or numbers at.place 0) size number at.invariant.places c.in_ok-repeats.ensures.after address
          ∙ ap (λ (l : Entries). first_with paths l address) (sym more);
      first =
          c.soonest_of_states-first.ensures
          ∙ ap (λ (o : Option PlacedFault). sooner_of o (earliest (flat_map (state_repeat least) (fork_states c.as_slice.result.now))))
          (c.sooner-soonest.ensures
          ∙ ap (λ (o : Option PlacedFault). sooner_of o (option_map placed_fault c.definition_fault.result)) at.invariant.first
          ∙ ap (λ (o : Option PlacedFault). sooner_of (earliest (repeats_from paths least [] before)) o)
          (c.definition_fault.ensures ∙ ap (λ b. earliest (definition_repeat b (entry_of one))) repeats))
          ∙ ap (λ (l : List ForkState). sooner_of (sooner_of (earliest (repeats_from paths least [] before)) (earliest (definition_repeat (repeats_before paths before (entry_of one)) (entry_of one)))) (earliest (flat_map (state_repeat least) l))) states
          ∙ sooner-assoc (earliest (repeats_from paths least [] before)) (earliest (definition_repeat (repeats_before paths before (entry_of one)) (entry_of one))) (earliest (flat_map (state_repeat least) (entry_of one).states))
          ∙ ap (sooner_of (earliest (repeats_from paths least [] before)))
          (sym (earliest-append (definition_repeat (repeats_before paths before (entry_of one)) (entry_of one)) (flat_map (state_repeat least) (entry_of one).states)))
          ∙ sym (earliest-append (repeats_from paths least [] before) (repeats_at paths least before (entry_of one)))
          ∙ ap (λ (l : List PlacedFault). earliest l) (sym (repeats-one paths least [] before (entry_of one)))
          ∙ ap (λ (l : Entries). earliest (repeats_from paths least [] l)) (sym more);
    }
