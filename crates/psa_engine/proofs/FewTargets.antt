-- What was loaded has few targets: their numbers fit into 32 bits.
use Rattle.std.specs.Prelude.{Option, None}
use Rattle.std.proofs.Common.{◌≡◌, ◌≤◌, ◌<◌, ◌+◌, ◌-◌, ◌^◌, ◌==◌, ℕ, suc, Bool, true, false, not, List, [], ◌∷◌, ◌++◌, map, length, filter, sum, if◌then◌else◌, refl, sym, ap, subst, ◌∙◌, arith, length-append}
use Rattle.std.proofs.lemmas.List.{length-map}
use Rattle.std.proofs.lemmas.List.Sums.{length-filter, count_by-le-length}
use Rattle.psa_model.specs.declared.limits.TheConstants.{MAX_PATHS, MAX_SIZE}
use Rattle.psa_model.specs.declared.model.Initiating.{Initiating}
use Rattle.psa_model.specs.declared.model.Model.{Model}
use Rattle.psa_model.specs.declared.targets.Target.{Target}
use Rattle.psa_model.specs.declared.targets.Target.TheVariants.{Sequence, TopEvent}
use Rattle.psa_model.specs.Events.{places_from}
use Rattle.psa_model.specs.Models.{IsOfSize, members_of, defined_members}
use Rattle.psa_model.specs.PathFaults.{joined_paths, walk_fault}
use Rattle.psa_model.specs.Paths.{Arrival, too_long, arrives, Arrived, paths_of}
use Rattle.psa_model.specs.PathTargets.{all_sequences, arrived_in, paths_to, sequence_targets, targets_of}
use Rattle.psa_model.specs.Ranks.{firsts}
use Rattle.psa_model.specs.Targets.{is_top_event, top_events, top_targets}
use Rattle.psa_model.proofs.PathCounts.{few-paths}
use Rattle.psa_outcome.specs.declared.loaded.Loaded.{Loaded}
use Rattle.psa_outcome.specs.Analyses.{analysis_of_expanded}
use Rattle.psa_outcome.specs.Loading.{IsLoaded, loaded_analysis}
use Rattle.psa_model.specs.declared.expanded.Expanded.{Expanded}
use Rattle.psa_load.proofs.FewEvents.{few-events}
use Rattle.psa_outcome.proofs.SettingsLemmas.{of-model, unfaulted}
use Rattle.psa_model.specs.Expansion.{expanded_of}

-- each number at its first place is no more than all
firsts-count : (xs : List ℕ) → length (firsts xs) ≤ length xs
firsts-count [] = omega arith
firsts-count (x ∷ xs) =
    let rest = firsts-count xs in
    let kept : length (filter (λ y. not (y == x)) (firsts xs)) ≤ length (firsts xs) =
    subst (λ n. n ≤ length (firsts xs)) (sym (length-filter (λ y. not (y == x)) (firsts xs))) (count_by-le-length (λ y. not (y == x)) (firsts xs)) in
    omega (arith, rest, kept)

-- the places of some elements are no more than these
places-count : {A : Type 0} (test : ℕ → A → Bool) (place : ℕ) (xs : List A) → length (places_from test place xs) ≤ length xs
places-count test place [] = omega arith
places-count test place (x ∷ xs) = of (test place x) (places-count test (place + 1) xs)
  where
    of : (b : Bool) → length (places_from test (place + 1) xs) ≤ length xs → length (if b then place ∷ places_from test (place + 1) xs else places_from test (place + 1) xs) ≤ suc (length xs)
    of true more = omega (arith, more)
    of false more = omega (arith, more)

-- the paths that arrived are some of all
arrived-count : (paths : List Arrival) → length (arrived_in paths) ≤ length paths
arrived-count [] = omega arith
arrived-count (too_long ∷ more) = let rest = arrived-count more in omega (arith, rest)
arrived-count (arrives a ∷ more) = let rest = arrived-count more in omega (arith, rest)

sequence-count : (place : ℕ) (arrived : List Arrived) → length (sequence_targets place arrived) ≤ length arrived
sequence-count place arrived =
    let some = firsts-count (map (λ a. a.sequence.0) arrived) in
    let one : length (sequence_targets place arrived) ≡ length (firsts (map (λ a. a.sequence.0) arrived)) =
    length-map (firsts (map (λ a. a.sequence.0) arrived)) (λ sequence. Sequence (record { 0 = place }) (record { 0 = sequence }) (paths_to sequence arrived)) in
    let all : length (map (λ (a : Arrived). a.sequence.0) arrived) ≡ length arrived = length-map arrived (λ (a : Arrived). a.sequence.0) in
    omega (arith, some, one, all)

-- a path with its initiating event
abbrev with_event : Initiating → Arrival → Initiating × Arrival
with_event initiating arrival = (initiating, arrival)

sequences-count : (model : Model) (place : ℕ) (initiatings : List Initiating) → length (all_sequences model place initiatings) ≤ length (joined_paths model place initiatings)
sequences-count model place [] = omega arith
sequences-count model place (initiating ∷ more) =
    let paths = paths_of model place initiating in
    let first = sequence-count place (arrived_in paths) in
    let arrived = arrived-count paths in
    let mapped : length (map (with_event initiating) paths) ≡ length paths = length-map paths (with_event initiating) in
    let rest = sequences-count model (suc place) more in
    let one = length-append (sequence_targets place (arrived_in paths)) (all_sequences model (suc place) more) in
    let other = length-append (map (with_event initiating) paths) (joined_paths model (suc place) more) in
    omega (arith, first, arrived, mapped, rest, one, other)

tops-count : (model : Model) → IsOfSize model → length (top_targets model) ≤ MAX_SIZE
tops-count model size =
    let places = places-count (is_top_event model) 0 model.gates in
    let mapped : length (top_targets model) ≡ length (top_events model) = length-map (top_events model) (λ place. TopEvent (record { 0 = place })) in
    omega (arith, size, places, mapped)

-- what was loaded has few targets
pub few-targets : (loaded : Loaded) → IsLoaded loaded → length loaded.targets < 2 ^ 32
few-targets loaded is =
    let model = loaded.expanded.model in
    let faultless : walk_fault model ≡ None = unfaulted (walk_fault model) (λ u. analysis_of_expanded loaded.settings (expanded_of loaded.settings.ccf model)) (loaded_analysis loaded) is.analysed in
    let paths = few-paths model faultless in
    let sequences = sequences-count model 0 model.initiatings in
    let tops = tops-count model is.few in
    let both = length-append (top_targets model) (all_sequences model 0 model.initiatings) in
    let count : length loaded.targets ≡ length (targets_of model) = ap length is.targets in
    omega (arith, paths, sequences, tops, both, count)

-- and few events
pub few-loaded-events : (loaded : Loaded) → IsLoaded loaded → length loaded.expanded.events < 2 ^ 32
few-loaded-events loaded is =
    let its = of-model loaded.settings loaded.expanded.model (loaded_analysis loaded) is.analysed in
    subst (λ (expanded : Expanded). length expanded.events < 2 ^ 32) (sym its.events_are)
    (few-events loaded.settings.ccf loaded.expanded.model is.model is.few)
