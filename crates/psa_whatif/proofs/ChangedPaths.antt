-- A model with other basic events and house events has the same paths and targets, and each target the same events.
use Rattle.std.proofs.Common.{◌≡◌, ℕ, zero, suc, Bool, List, [], ◌∷◌, ◌++◌, Option, Some, None, length, map, nat_lt, refl, ap, ap₂, ◌∙◌}
use Rattle.std.specs.Prelude.{if◌then◌else◌}
use Rattle.std.specs.List.{slice_get, slice_set, flat_map}
use Rattle.std.specs.Option.{option_or}
use Rattle.psa_model.specs.declared.expanded.Expanded.{Expanded}
use Rattle.psa_model.specs.declared.expanded.ExpandedEvent.{ExpandedEvent}
use Rattle.psa_model.specs.declared.fault.FaultKind.TheVariants.{TooManyEvents}
use Rattle.psa_model.specs.declared.formula.Formula.{Formula}
use Rattle.psa_model.specs.declared.formula.Formula.TheViews.{out-Formula}
use Rattle.psa_model.specs.declared.formula.Formula.TheVariants as variant
use Rattle.psa_model.specs.declared.ids.EventNumber.{EventNumber}
use Rattle.psa_model.specs.declared.limits.TheConstants.{MAX_EVENTS, MAX_INSTRUCTIONS, MAX_PATHS}
use Rattle.psa_model.specs.declared.model.BasicEvent.{BasicEvent}
use Rattle.psa_model.specs.declared.model.House.{House}
use Rattle.psa_model.specs.declared.model.Initiating.{Initiating}
use Rattle.psa_model.specs.declared.model.Model.{Model}
use Rattle.psa_model.specs.declared.model.TheConstants.{MAX_DEPTH}
use Rattle.psa_model.specs.declared.targets.PathStep.{PathStep}
use Rattle.psa_model.specs.declared.targets.PathStep.TheVariants.{Collect, Set}
use Rattle.psa_model.specs.declared.targets.Target.{Target}
use Rattle.psa_model.specs.declared.targets.Target.TheVariants.{TopEvent, Sequence as of_sequence}
use Rattle.psa_model.specs.declared.walks.Branch.{Branch}
use Rattle.psa_model.specs.declared.walks.BranchEnd.{BranchEnd}
use Rattle.psa_model.specs.declared.walks.BranchEnd.TheOpen.{BranchEnd-F}
use Rattle.psa_model.specs.declared.walks.BranchEnd.TheViews.{out-BranchEnd}
use Rattle.psa_model.specs.declared.walks.ForkPath.{ForkPath}
use Rattle.psa_model.specs.declared.walks.Instruction.{Instruction}
use Rattle.psa_model.specs.declared.walks.Instruction.TheViews.{out-Instruction}
use Rattle.psa_model.specs.Faults.{fault_at}
use Rattle.psa_model.specs.PathFaults.{first_fault, joined_paths, walk_fault}
use Rattle.psa_model.specs.Paths.{Arrival, Below, Carried, Travelled, after_instructions, arrivals, arrivals_from, carried, end_arrivals, link_arrivals, one_carried, paths_of, tree_of}
use Rattle.psa_model.specs.PathTargets.{all_sequences, arrived_in, sequence_targets, targets_of}
use Rattle.psa_model.specs.RankFaults.{place_of_target, rank_fault}
use Rattle.psa_model.specs.Ranks.{firsts, ranks_of, target_visits, visits, visits_layer}
use Rattle.psa_model.specs.Targets.{Collected, collected, collected_formula, top_targets}
use Rattle.psa_model.specs.Truth.{house_states}
use Rattle.psa_whatif.proofs.ChangedModels.{changed}

-- the same steps are carried out
carried-same : (m : Model) (bs : List BasicEvent) (hs : List House) (initiating left : ℕ) (all : List Instruction)
    (along : Travelled) → carried left (changed m bs hs) initiating all along ≡ carried left m initiating all along
unfolding carried
carried-same m bs hs initiating zero [] along = refl
carried-same m bs hs initiating zero (one ∷ rest) along = refl
carried-same m bs hs initiating (suc left) [] along = refl
carried-same m bs hs initiating (suc left) (one ∷ rest) along =
    ap (λ (go : List Instruction → Travelled → Option Carried).
    one_carried m initiating go rest along (out-Instruction one))
    (λ i all after. carried-same m bs hs initiating left all after i)

-- the end of a branch has the same arrivals, by the same ones below it
end-same : (m : Model) (bs : List BasicEvent) (hs : List House) (initiating : ℕ) (below : Below) (left : ℕ)
    (along : Travelled) (end : BranchEnd-F BranchEnd Branch ForkPath)
    → end_arrivals (changed m bs hs) initiating below left along end ≡ end_arrivals m initiating below left along end
end-same m bs hs initiating below left along (BranchEnd-F.Fork functional paths) = refl
end-same m bs hs initiating below left along (BranchEnd-F.Sequence id) =
    ap (arrivals_from (slice_get m.sequences id.0))
    (λ i s. after_instructions (carried-same m bs hs initiating left s.instructions along i)
    (λ l a. link_arrivals m below id s.link l a))
end-same m bs hs initiating below left along (BranchEnd-F.Branch id) = refl

-- branches have the same arrivals
arrivals-same : (m : Model) (bs : List BasicEvent) (hs : List House) (initiating n left : ℕ) (branch : Branch)
    (along : Travelled)
    → arrivals n (changed m bs hs) initiating left branch along ≡ arrivals n m initiating left branch along
unfolding arrivals
arrivals-same m bs hs initiating zero left branch along = refl
arrivals-same m bs hs initiating (suc n) left branch along =
    ap₂ after_instructions (carried-same m bs hs initiating left branch.instructions along)
    (λ i l a. (end-same m bs hs initiating below l a (out-BranchEnd branch.end)
    ∙ ap (λ (go : Below). end_arrivals m initiating go l a (out-BranchEnd branch.end))
    (λ j k b c. arrivals-same m bs hs initiating n k b c j)) i)
  where
    below : Below
    below k b c = arrivals n (changed m bs hs) initiating k b c

-- an initiating event has the same paths
paths-same : (m : Model) (bs : List BasicEvent) (hs : List House) (place : ℕ) (initiating : Initiating)
    → paths_of (changed m bs hs) place initiating ≡ paths_of m place initiating
paths-same m bs hs place initiating =
    ap (arrivals_from (tree_of m initiating.tree))
    (λ i tree. arrivals-same m bs hs place MAX_DEPTH MAX_INSTRUCTIONS tree.start (record { steps = []; forks = [] }) i)

joined-same : (m : Model) (bs : List BasicEvent) (hs : List House) (place : ℕ) (all : List Initiating)
    → joined_paths (changed m bs hs) place all ≡ joined_paths m place all
joined-same m bs hs place [] = refl
joined-same m bs hs place (one ∷ more) =
    ap₂ (λ (paths : List Arrival) (rest : List (Initiating × Arrival)). map (λ arrival. (one, arrival)) paths ++ rest)
    (paths-same m bs hs place one) (joined-same m bs hs (suc place) more)

-- the fault of paths is the same
pub walk_fault-same : (m : Model) (bs : List BasicEvent) (hs : List House)
    → walk_fault (changed m bs hs) ≡ walk_fault m
walk_fault-same m bs hs = ap (first_fault MAX_PATHS) (joined-same m bs hs 0 m.initiatings)

sequences-same : (m : Model) (bs : List BasicEvent) (hs : List House) (place : ℕ) (all : List Initiating)
    → all_sequences (changed m bs hs) place all ≡ all_sequences m place all
sequences-same m bs hs place [] = refl
sequences-same m bs hs place (one ∷ more) =
    ap₂ (λ (paths : List Arrival) (rest : List Target). sequence_targets place (arrived_in paths) ++ rest)
    (paths-same m bs hs place one) (sequences-same m bs hs (suc place) more)

-- the targets are the same
pub targets-same : (m : Model) (bs : List BasicEvent) (hs : List House)
    → targets_of (changed m bs hs) ≡ targets_of m
targets-same m bs hs = ap (λ (rest : List Target). top_targets m ++ rest) (sequences-same m bs hs 0 m.initiatings)

-- ---- ranks

-- the changed model with events
abbrev pub changed_with : Model → List BasicEvent → List House → List ExpandedEvent → Expanded
changed_with m bs hs events = record { model = changed m bs hs; events = events }

-- the model itself with events
abbrev pub with_events : Model → List ExpandedEvent → Expanded
with_events m events = record { model = m; events = events }

-- a formula meets the same events
visits-same : (m : Model) (bs : List BasicEvent) (hs : List House) (events : List ExpandedEvent) (n : ℕ)
    (f : Formula) → visits n (changed_with m bs hs events) f ≡ visits n (with_events m events) f
unfolding visits
visits-same m bs hs events zero f = refl
visits-same m bs hs events (suc n) f =
    ap (λ (below : Formula → List ℕ). visits_layer (with_events m events) below (out-Formula f))
    (λ i g. visits-same m bs hs events n g i)

-- what is made of a formula that may be found, and of those behind it
found-same : (make : Formula → List ℕ) (found : Option Formula) (states others : List Bool)
    (behind after : List Collected)
    → flat_map (λ one. make one.formula) behind ≡ flat_map (λ one. make one.formula) after
    → flat_map (λ one. make one.formula) (collected_formula found states behind)
    ≡ flat_map (λ one. make one.formula) (collected_formula found others after)
found-same make None states others behind after same = same
found-same make (Some f) states others behind after same = ap (λ (rest : List ℕ). make f ++ rest) same

-- what is made of the formulas that a path collects, whatever the states of house events
made-same : (m : Model) (make : Formula → List ℕ) (states others : List Bool) (path : List PathStep)
    → flat_map (λ one. make one.formula) (collected m states path)
    ≡ flat_map (λ one. make one.formula) (collected m others path)
made-same m make states others [] = refl
made-same m make states others (Collect id ∷ steps) =
    found-same make (slice_get m.formulas id.0) states others (collected m states steps) (collected m others steps)
    (made-same m make states others steps)
made-same m make states others (Set house state ∷ steps) =
    made-same m make (slice_set states house.0 state) (slice_set others house.0 state) steps

-- a path meets the same events
path-same : (m : Model) (bs : List BasicEvent) (hs : List House) (events : List ExpandedEvent) (path : List PathStep)
    → flat_map (λ one. visits (suc MAX_DEPTH) (changed_with m bs hs events) one.formula)
    (collected (changed m bs hs) (house_states (changed m bs hs)) path)
    ≡ flat_map (λ one. visits (suc MAX_DEPTH) (with_events m events) one.formula) (collected m (house_states m) path)
path-same m bs hs events path =
    ap (λ (make : Formula → List ℕ).
    flat_map (λ one. make one.formula) (collected m (map (λ house. house.state) hs) path))
    (λ i f. visits-same m bs hs events (suc MAX_DEPTH) f i)
    ∙ made-same m (visits (suc MAX_DEPTH) (with_events m events)) (map (λ house. house.state) hs) (house_states m) path

-- a target meets the same events
target-same : (m : Model) (bs : List BasicEvent) (hs : List House) (events : List ExpandedEvent) (target : Target)
    → target_visits (changed_with m bs hs events) target ≡ target_visits (with_events m events) target
target-same m bs hs events (TopEvent gate) = visits-same m bs hs events (suc MAX_DEPTH) (variant.Gate gate)
target-same m bs hs events (of_sequence initiating sequence paths) =
    ap (λ (make : List PathStep → List ℕ). flat_map make paths) (λ i path. path-same m bs hs events path i)

-- a target has the same ranks
pub ranks-same : (m : Model) (bs : List BasicEvent) (hs : List House) (events : List ExpandedEvent) (target : Target)
    → ranks_of (changed_with m bs hs events) target ≡ ranks_of (with_events m events) target
ranks-same m bs hs events target =
    ap (λ (met : List ℕ). map (λ event. record { 0 = event }) (firsts met)) (target-same m bs hs events target)

-- the fault of too many events is the same
pub rank_fault-same : (m : Model) (bs : List BasicEvent) (hs : List House) (events : List ExpandedEvent)
    (targets : List Target)
    → rank_fault (changed_with m bs hs events) targets ≡ rank_fault (with_events m events) targets
rank_fault-same m bs hs events [] = refl
rank_fault-same m bs hs events (target ∷ more) =
    ap₂ option_or
    (ap (λ (ranks : List EventNumber). if nat_lt MAX_EVENTS (length ranks)
    then Some (fault_at TooManyEvents (place_of_target m target)) else None) (ranks-same m bs hs events target))
    (rank_fault-same m bs hs events more)
