-- The targets of a model that has what is promised of one stand: so do the steps of all paths.
use Rattle.std.proofs.Common.{◌≡◌, ◌≤◌, ◌<◌, ◌+◌, ◌-◌, ◌==◌, ℕ, zero, suc, Bool, true, false, List, [], ◌∷◌, ◌++◌, Option, None, Some, length, map, ◌&&◌, if◌then◌else◌, refl, sym, ◌∙◌, arith}
use Rattle.std.specs.Prelude.{nat_lt, nat_le}
use Rattle.std.proofs.lemmas.Bool.{and_parts, false≢true, lt-ltb}
use Rattle.std.proofs.lemmas.List.Elements.{recursion_from_All}
use Rattle.std.proofs.lemmas.List.Folds.{list_all-append, list_all-map}
use Rattle.std.specs.List.{AllByRecursion, slice_get, list_all, filter}
use Rattle.psa_model.specs.declared.ids.SequenceId.{SequenceId}
use Rattle.psa_model.specs.declared.ids.TreeId.{TreeId}
use Rattle.psa_model.specs.declared.limits.TheConstants.{MAX_INSTRUCTIONS}
use Rattle.psa_model.specs.declared.model.TheConstants.{MAX_DEPTH}
use Rattle.psa_model.specs.declared.model.EventTree.{EventTree}
use Rattle.psa_model.specs.declared.model.Functional.{Functional}
use Rattle.psa_model.specs.declared.model.Initiating.{Initiating}
use Rattle.psa_model.specs.declared.model.Model.{Model}
use Rattle.psa_model.specs.declared.model.RuleDefinition.{RuleDefinition}
use Rattle.psa_model.specs.declared.targets.PathStep.{PathStep}
use Rattle.psa_model.specs.declared.targets.PathStep.TheVariants as step
use Rattle.psa_model.specs.declared.targets.Target.TheVariants as target
use Rattle.psa_model.specs.declared.walks.Branch.{Branch}
use Rattle.psa_model.specs.declared.walks.BranchEnd.{BranchEnd}
use Rattle.psa_model.specs.declared.walks.BranchEnd.TheOpen.{BranchEnd-F}
use Rattle.psa_model.specs.declared.walks.BranchEnd.TheViews.{out-BranchEnd}
use Rattle.psa_model.specs.declared.walks.ForkPath.{ForkPath}
use Rattle.psa_model.specs.declared.walks.Instruction.{Instruction}
use Rattle.psa_model.specs.declared.walks.Instruction.TheOpen.{Instruction-F}
use Rattle.psa_model.specs.declared.walks.Instruction.TheViews.{out-Instruction}
use Rattle.psa_model.specs.Models.{IsModel}
use Rattle.psa_model.specs.PathLevels.{passes_there, link_within}
use Rattle.psa_model.specs.PathTargets.{arrived_in, paths_to, sequence_targets, all_sequences, targets_of}
use Rattle.psa_model.specs.Paths.{Travelled, Carried, Arrived, Arrival, too_long, arrives, with_step, with_fork, contents_of, one_carried, carried, after_instructions, Below, arrivals_from, link_arrivals, fork_arrivals, end_arrivals, arrivals, tree_of, paths_of}
use Rattle.psa_model.specs.Standing.{step_stands, target_stands}
use Rattle.psa_model.specs.Targets.{is_top_event, top_events, top_targets}
use Rattle.psa_model.specs.Tests.{is_true_in}
use Rattle.psa_model.specs.Truth.{within}
use Rattle.psa_model.specs.WalkLevels.{test_within, instruction_layer, instruction_within, end_layer, walk_within}
use Rattle.psa_model.proofs.StandingRanks.{and-both, all-joined, all-filtered, all-firsts, all-places}
use Rattle.psa_model.proofs.WalkLevels.{instruction-more, all-more}

-- what passes a test at an id stands there
there-below : {A : Type 0} (test : A → Bool) (xs : List A) (i : ℕ) → passes_there (slice_get xs i) test ≡ true → i < length xs
there-below test [] i h = absurd (false≢true h)
there-below test (x ∷ xs) zero h = omega arith
there-below test (x ∷ xs) (suc i) h = let below = there-below test xs i h in omega (arith, below)

there-stands : {A : Type 0} (test : A → Bool) (xs : List A) (i : ℕ) → passes_there (slice_get xs i) test ≡ true → nat_lt i (length xs) ≡ true
there-stands test xs i h = lt-ltb i (length xs) (there-below test xs i h)

all-parts : {A : Type 0} (p : A → Bool) (xs ys : List A) → list_all p (xs ++ ys) ≡ true → (list_all p xs ≡ true) × (list_all p ys ≡ true)
all-parts p xs ys h = and_parts (list_all p xs) (list_all p ys) (sym (list_all-append p xs ys) ∙ h)

all-chosen : {A : Type 0} (p : A → Bool) (b : Bool) (xs ys : List A) → list_all p xs ≡ true → list_all p ys ≡ true → list_all p (if b then xs else ys) ≡ true
all-chosen p true xs ys h k = h
all-chosen p false xs ys h k = k

-- ---- instructions

abbrev pub StepsStand : Model → Option Carried → Type 0
StepsStand model None = Unit {0}
StepsStand model (Some c) = list_all (step_stands model) c.along.steps ≡ true

step-added : (model : Model) (along : Travelled) (next : PathStep) → list_all (step_stands model) along.steps ≡ true → step_stands model next ≡ true → list_all (step_stands model) (with_step along next).steps ≡ true
step-added model along next h k = all-joined (step_stands model) along.steps (next ∷ []) h (and-both (step_stands model next) true k refl)

rule-within : (n : ℕ) (model : Model) (found : Option RuleDefinition) → passes_there found (λ rule. list_all (instruction_within n model) rule.instructions) ≡ true → list_all (instruction_within (suc n) model) (contents_of found) ≡ true
rule-within n model None h = absurd (false≢true h)
rule-within n model (Some rule) h = all-more (instruction_within n model) (instruction_within (suc n) model) (λ i. instruction-more n model i) rule.instructions h

one-stands : (n : ℕ) (model : Model) (initiating : ℕ) (go : List Instruction → Travelled → Option Carried)
    → ((is : List Instruction) (a : Travelled) → list_all (instruction_within (suc n) model) is ≡ true → list_all (step_stands model) a.steps ≡ true → StepsStand model (go is a))
    → (rest : List Instruction) (along : Travelled) → list_all (instruction_within (suc n) model) rest ≡ true → list_all (step_stands model) along.steps ≡ true
    → (layer : Instruction-F Instruction) → instruction_layer n model (λ i. instruction_within n model i) layer ≡ true → StepsStand model (one_carried model initiating go rest along layer)
one-stands n model initiating go each rest along inside stands (Instruction-F.Collect id) h =
    each rest (with_step along (step.Collect id)) inside
    (step-added model along (step.Collect id) stands (there-stands (λ formula. within n model formula) model.formulas id.0 h))
one-stands n model initiating go each rest along inside stands (Instruction-F.SetHouse house state) h =
    each rest (with_step along (step.Set house state)) inside (step-added model along (step.Set house state) stands h)
one-stands n model initiating go each rest along inside stands (Instruction-F.Block inner) h =
    each (inner ++ rest) along
    (all-joined (instruction_within (suc n) model) inner rest (all-more (instruction_within n model) (instruction_within (suc n) model) (λ i. instruction-more n model i) inner h) inside)
    stands
one-stands n model initiating go each rest along inside stands (Instruction-F.Rule id) h =
    each (contents_of (slice_get model.rules id.0) ++ rest) along
    (all-joined (instruction_within (suc n) model) (contents_of (slice_get model.rules id.0)) rest (rule-within n model (slice_get model.rules id.0) h) inside)
    stands
one-stands n model initiating go each rest along inside stands (Instruction-F.If test first second) h =
    let numbers = and_parts (length first == 1 && nat_le (length second) 1) _ h in
    let both = and_parts (test_within n model test) (list_all (instruction_within n model) (first ++ second)) numbers.1 in
    let raised = all-more (instruction_within n model) (instruction_within (suc n) model) (λ i. instruction-more n model i) (first ++ second) both.1 in
    let parts = all-parts (instruction_within (suc n) model) first second raised in
    each ((if is_true_in initiating along.forks test then first else second) ++ rest) along
    (all-joined (instruction_within (suc n) model) (if is_true_in initiating along.forks test then first else second) rest
    (all-chosen (instruction_within (suc n) model) (is_true_in initiating along.forks test) first second parts.0 parts.1) inside)
    stands

instruction-stands : (n : ℕ) (model : Model) (initiating : ℕ) (go : List Instruction → Travelled → Option Carried)
    → ((is : List Instruction) (a : Travelled) → list_all (instruction_within n model) is ≡ true → list_all (step_stands model) a.steps ≡ true → StepsStand model (go is a))
    → (rest : List Instruction) (along : Travelled) → list_all (instruction_within n model) rest ≡ true → list_all (step_stands model) along.steps ≡ true
    → (one : Instruction) → instruction_within n model one ≡ true → StepsStand model (one_carried model initiating go rest along (out-Instruction one))
unfolding instruction_within
instruction-stands zero model initiating go each rest along inside stands one h = absurd (false≢true h)
instruction-stands (suc n) model initiating go each rest along inside stands one h =
    one-stands n model initiating go each rest along inside stands (out-Instruction one) h

carried-stands : (n left : ℕ) (model : Model) (initiating : ℕ) (is : List Instruction) (along : Travelled) → list_all (instruction_within n model) is ≡ true → list_all (step_stands model) along.steps ≡ true → StepsStand model (carried left model initiating is along)
unfolding carried
carried-stands n zero model initiating [] along inside stands = stands
carried-stands n zero model initiating (i ∷ is) along inside stands = tt
carried-stands n (suc left) model initiating [] along inside stands = stands
carried-stands n (suc left) model initiating (i ∷ is) along inside stands =
    let parts = and_parts (instruction_within n model i) (list_all (instruction_within n model) is) inside in
    instruction-stands n model initiating _ (λ js a k l. carried-stands n left model initiating js a k l) is along parts.1 stands i parts.0

-- ---- arrivals

abbrev pub ArrivedStands : Model → Arrived → Bool
ArrivedStands model a = nat_lt a.sequence.0 (length model.sequences) && list_all (step_stands model) a.path

abbrev pub ArrivalStands : Model → Arrival → Bool
ArrivalStands model too_long = true
ArrivalStands model (arrives a) = ArrivedStands model a

abbrev pub AreStanding : Model → List Arrival → Type 0
AreStanding model all = list_all (ArrivalStands model) all ≡ true

after-stands : (model : Model) (outcome : Option Carried) (go : ℕ → Travelled → List Arrival) → StepsStand model outcome → ((left : ℕ) (a : Travelled) → list_all (step_stands model) a.steps ≡ true → AreStanding model (go left a)) → AreStanding model (after_instructions outcome go)
after-stands model None go h each = refl
after-stands model (Some c) go h each = each c.left c.along h

from-stands : {A : Type 0} (model : Model) (test : A → Bool) (found : Option A) (go : A → List Arrival) → ((a : A) → test a ≡ true → AreStanding model (go a)) → passes_there found test ≡ true → AreStanding model (arrivals_from found go)
from-stands model test None go each h = refl
from-stands model test (Some a) go each h = each a h

chosen-stands : (model : Model) (b : Bool) (xs : List Arrival) → AreStanding model xs → AreStanding model (if b then too_long ∷ [] else xs)
chosen-stands model true xs h = refl
chosen-stands model false xs h = h

module _ (n : ℕ) (model : Model) (initiating : ℕ) (test : Branch → Bool) (below : Below) (each : (left : ℕ) (branch : Branch) (along : Travelled) → test branch ≡ true → list_all (step_stands model) along.steps ≡ true → AreStanding model (below left branch along)) where
  fork-stands : (left : ℕ) (along : Travelled) (paths : List ForkPath) (functional : Functional) → list_all (step_stands model) along.steps ≡ true → list_all (λ path. test path.branch) paths ≡ true → AreStanding model (fork_arrivals below left along paths functional)
  fork-stands left along [] functional stands h = refl
  fork-stands left along (path ∷ paths) functional stands h =
      let parts = and_parts (test path.branch) (list_all (λ path. test path.branch) paths) h in
      all-joined (ArrivalStands model) (below left path.branch (with_fork along functional path)) (fork_arrivals below left along paths functional)
      (each left path.branch (with_fork along functional path) parts.0 stands) (fork-stands left along paths functional stands parts.1)

  link-stands : (id : SequenceId) (link : Option TreeId) (left : ℕ) (along : Travelled) → nat_lt id.0 (length model.sequences) ≡ true → list_all (step_stands model) along.steps ≡ true → link_within model test link ≡ true → AreStanding model (link_arrivals model below id link left along)
  link-stands id None left along here stands h =
      and-both (ArrivedStands model (record { sequence = id; path = along.steps })) true (and-both (nat_lt id.0 (length model.sequences)) (list_all (step_stands model) along.steps) here stands) refl
  link-stands id (Some tree) left along here stands h =
      chosen-stands model (left == 0) _
      (from-stands model (λ t. test t.start) (slice_get model.event_trees tree.0) _ (λ t k. each (left - 1) t.start along k stands) h)

  end-stands : (left : ℕ) (along : Travelled) (end : BranchEnd-F BranchEnd Branch ForkPath) → list_all (step_stands model) along.steps ≡ true → end_layer n model test end ≡ true → AreStanding model (end_arrivals model initiating below left along end)
  end-stands left along (BranchEnd-F.Fork functional paths) stands h =
      from-stands model (λ f. list_all (λ path. test path.branch) paths) (slice_get model.functionals functional.0) _ (λ f k. fork-stands left along paths f stands k) h
  end-stands left along (BranchEnd-F.Sequence id) stands h =
      let here = there-stands _ model.sequences id.0 h in
      from-stands model (λ sequence. list_all (instruction_within n model) sequence.instructions && link_within model test sequence.link) (slice_get model.sequences id.0) _
      (λ s k.
      let parts = and_parts (list_all (instruction_within n model) s.instructions) (link_within model test s.link) k in
      after-stands model (carried left model initiating s.instructions along) _ (carried-stands n left model initiating s.instructions along parts.0 stands)
      (λ l a standing. link-stands id s.link l a here standing parts.1))
      h
  end-stands left along (BranchEnd-F.Branch id) stands h =
      from-stands model (λ named. test named.branch) (slice_get model.branches id.0) _ (λ named k. each left named.branch along k stands) h

arrivals-stand : (levels : ℕ) (model : Model) (initiating left : ℕ) (branch : Branch) (along : Travelled) → walk_within levels model branch ≡ true → list_all (step_stands model) along.steps ≡ true → AreStanding model (arrivals levels model initiating left branch along)
unfolding arrivals walk_within
arrivals-stand zero model initiating left branch along h stands = refl
arrivals-stand (suc levels) model initiating left branch along h stands =
    let parts = and_parts (list_all (instruction_within (suc levels) model) branch.instructions) _ h in
    after-stands model (carried left model initiating branch.instructions along) _ (carried-stands (suc levels) left model initiating branch.instructions along parts.0 stands)
    (λ l a standing.
    end-stands levels model initiating (λ b. walk_within levels model b) (λ m b c. arrivals levels model initiating m b c)
    (λ m b c k j. arrivals-stand levels model initiating m b c k j) l a (out-BranchEnd branch.end) standing parts.1)

-- ---- targets

tree-stands : (model : Model) (place : ℕ) (trees : List EventTree) (i : ℕ) → AllByRecursion (λ tree. walk_within MAX_DEPTH model tree.start ≡ true) trees
    → AreStanding model (arrivals_from (slice_get trees i) (λ tree. arrivals MAX_DEPTH model place MAX_INSTRUCTIONS tree.start (record { steps = []; forks = [] })))
tree-stands model place [] i all = refl
tree-stands model place (tree ∷ trees) zero all = arrivals-stand MAX_DEPTH model place MAX_INSTRUCTIONS tree.start _ all.0 refl
tree-stands model place (tree ∷ trees) (suc i) all = tree-stands model place trees i all.1

found-stands : (model : Model) (place : ℕ) (tree : Option TreeId) → AllByRecursion (λ one. walk_within MAX_DEPTH model one.start ≡ true) model.event_trees
    → AreStanding model (arrivals_from (tree_of model tree) (λ one. arrivals MAX_DEPTH model place MAX_INSTRUCTIONS one.start (record { steps = []; forks = [] })))
found-stands model place None all = refl
found-stands model place (Some tree) all = tree-stands model place model.event_trees tree.0 all

arrived-stand : (model : Model) (all : List Arrival) → AreStanding model all → list_all (ArrivedStands model) (arrived_in all) ≡ true
arrived-stand model [] h = refl
arrived-stand model (too_long ∷ all) h = arrived-stand model all h
arrived-stand model (arrives a ∷ all) h =
    let parts = and_parts (ArrivedStands model a) (list_all (ArrivalStands model) all) h in
    and-both (ArrivedStands model a) (list_all (ArrivedStands model) (arrived_in all)) parts.0 (arrived-stand model all parts.1)

paths-stand : (model : Model) (arrived : List Arrived) → list_all (ArrivedStands model) arrived ≡ true → list_all (λ path. list_all (step_stands model) path) (map (λ a. a.path) arrived) ≡ true
paths-stand model [] h = refl
paths-stand model (a ∷ arrived) h =
    let parts = and_parts (ArrivedStands model a) (list_all (ArrivedStands model) arrived) h in
    and-both (list_all (step_stands model) a.path) _ (and_parts (nat_lt a.sequence.0 (length model.sequences)) (list_all (step_stands model) a.path) parts.0).1 (paths-stand model arrived parts.1)

numbers-stand : (model : Model) (arrived : List Arrived) → list_all (ArrivedStands model) arrived ≡ true → list_all (λ x. nat_lt x (length model.sequences)) (map (λ a. a.sequence.0) arrived) ≡ true
numbers-stand model [] h = refl
numbers-stand model (a ∷ arrived) h =
    let parts = and_parts (ArrivedStands model a) (list_all (ArrivedStands model) arrived) h in
    and-both (nat_lt a.sequence.0 (length model.sequences)) _ (and_parts (nat_lt a.sequence.0 (length model.sequences)) (list_all (step_stands model) a.path) parts.0).0 (numbers-stand model arrived parts.1)

each-sequence : (model : Model) (place : ℕ) (arrived : List Arrived) → nat_lt place (length model.initiatings) ≡ true → list_all (ArrivedStands model) arrived ≡ true
    → (sequences : List ℕ) → list_all (λ x. nat_lt x (length model.sequences)) sequences ≡ true
    → list_all (target_stands model) (map (λ sequence. target.Sequence (record { 0 = place }) (record { 0 = sequence }) (paths_to sequence arrived)) sequences) ≡ true
each-sequence model place arrived here stand [] h = refl
each-sequence model place arrived here stand (sequence ∷ sequences) h =
    let parts = and_parts (nat_lt sequence (length model.sequences)) (list_all (λ x. nat_lt x (length model.sequences)) sequences) h in
    let paths = paths-stand model (filter (λ a. a.sequence.0 == sequence) arrived) (all-filtered (ArrivedStands model) (λ a. a.sequence.0 == sequence) arrived stand) in
    and-both (target_stands model (target.Sequence (record { 0 = place }) (record { 0 = sequence }) (paths_to sequence arrived))) _
    (rw (here, parts.0, paths) refl)
    (each-sequence model place arrived here stand sequences parts.1)

sequences-stand : (model : Model) (place : ℕ) (initiatings : List Initiating) → AllByRecursion (λ one. walk_within MAX_DEPTH model one.start ≡ true) model.event_trees → place + length initiatings ≤ length model.initiatings
    → list_all (target_stands model) (all_sequences model place initiatings) ≡ true
sequences-stand model place [] trees fits = refl
sequences-stand model place (initiating ∷ more) trees fits =
    let stand : list_all (ArrivedStands model) (arrived_in (paths_of model place initiating)) ≡ true = arrived-stand model (paths_of model place initiating) (found-stands model place initiating.tree trees) in
    all-joined (target_stands model) (sequence_targets place (arrived_in (paths_of model place initiating))) (all_sequences model (suc place) more)
    (each-sequence model place (arrived_in (paths_of model place initiating)) (lt-ltb place (length model.initiatings) (omega arith)) stand _
    (all-firsts (λ x. nat_lt x (length model.sequences)) _ (numbers-stand model (arrived_in (paths_of model place initiating)) stand)))
    (sequences-stand model (suc place) more trees (omega arith))

top-targets-stand : (model : Model) → list_all (target_stands model) (top_targets model) ≡ true
top-targets-stand model =
    list_all-map (target_stands model) (λ (place : ℕ). target.TopEvent (record { 0 = place })) (top_events model)
    ∙ all-places (is_top_event model) (length model.gates) 0 model.gates (omega arith)

-- the top events by their places, the sequences by what is promised of event trees
pub targets-standing : (model : Model) → IsModel model → list_all (target_stands model) (targets_of model) ≡ true
targets-standing model is =
    all-joined (target_stands model) (top_targets model) (all_sequences model 0 model.initiatings) (top-targets-stand model)
    (sequences-stand model 0 model.initiatings (recursion_from_All (λ (tree : EventTree). walk_within MAX_DEPTH model tree.start ≡ true) model.event_trees is.event_trees) (omega arith))
