-- Paths through event trees (Open-PSA Model Exchange Format 2.0d; the limits are this project's own).
-- The definition gives whole lists: all paths of an initiating event in their order, with a mark in each
-- place where an instruction too many would be carried out, and nothing below that place.
use Rattle.std.specs.Prelude.{◌==◌, ◌-◌, ℕ, zero, suc, List, [], ◌∷◌, ◌++◌, Option, None, Some, if◌then◌else◌}
use Rattle.std.specs.List.{slice_get, flat_map}
use Rattle.psa_model.specs.declared.ids.TreeId.{TreeId}
use Rattle.psa_model.specs.declared.ids.SequenceId.{SequenceId}
use Rattle.psa_model.specs.declared.limits.TheConstants.{MAX_INSTRUCTIONS}
use Rattle.psa_model.specs.declared.model.TheConstants.{MAX_DEPTH}
use Rattle.psa_model.specs.declared.model.Model.{Model}
use Rattle.psa_model.specs.declared.model.EventTree.{EventTree}
use Rattle.psa_model.specs.declared.model.Functional.{Functional}
use Rattle.psa_model.specs.declared.model.Initiating.{Initiating}
use Rattle.psa_model.specs.declared.model.RuleDefinition.{RuleDefinition}
use Rattle.psa_model.specs.declared.model.Sequence.{Sequence}
use Rattle.psa_model.specs.declared.targets.PathStep.{PathStep}
use Rattle.psa_model.specs.declared.targets.PathStep.TheVariants.{Collect, Set}
use Rattle.psa_model.specs.declared.walks.Branch.{Branch}
use Rattle.psa_model.specs.declared.walks.ForkPath.{ForkPath}
use Rattle.psa_model.specs.declared.walks.BranchEnd.{BranchEnd}
use Rattle.psa_model.specs.declared.walks.BranchEnd.TheOpen.{BranchEnd-F}
use Rattle.psa_model.specs.declared.walks.BranchEnd.TheViews.{out-BranchEnd}
use Rattle.psa_model.specs.declared.walks.Instruction.{Instruction}
use Rattle.psa_model.specs.declared.walks.Instruction.TheOpen.{Instruction-F}
use Rattle.psa_model.specs.declared.walks.Instruction.TheViews.{out-Instruction}
use Rattle.psa_model.specs.Tests.{Fork, is_true_in}

-- what goes along a path: its steps, and the forks taken so far
pub record Travelled : Type 0 where
  pub steps : List PathStep
  pub forks : List Fork

-- how many instructions may still be carried out on a path, and what goes along after some were
pub record Carried : Type 0 where
  pub left : ℕ
  pub along : Travelled

-- the path with one step more
abbrev pub with_step : Travelled → PathStep → Travelled
with_step along step = record along { steps = along.steps ++ step ∷ [] }

-- the instructions of a rule
abbrev pub contents_of : Option RuleDefinition → List Instruction
contents_of None = []
contents_of (Some rule) = rule.instructions

-- One instruction and those after it: a block and a rule stand for their contents, a conditional for
-- its first instructions where its test is true, else for its second ones.
abbrev pub one_carried : Model → ℕ → (List Instruction → Travelled → Option Carried) → List Instruction → Travelled → Instruction-F Instruction → Option Carried
one_carried model initiating go rest along (Instruction-F.Collect id) = go rest (with_step along (Collect id))
one_carried model initiating go rest along (Instruction-F.SetHouse house state) = go rest (with_step along (Set house state))
one_carried model initiating go rest along (Instruction-F.Block inner) = go (inner ++ rest) along
one_carried model initiating go rest along (Instruction-F.Rule id) =
    go (contents_of (slice_get model.rules id.0) ++ rest) along
one_carried model initiating go rest along (Instruction-F.If test first second) =
    go ((if is_true_in initiating along.forks test then first else second) ++ rest) along

-- Instructions where `left` may be carried out; none where one more would be.
unfoldable pub carried : ℕ → Model → ℕ → List Instruction → Travelled → Option Carried
carried zero model initiating [] along = Some (record { left = zero; along = along })
carried zero model initiating (instruction ∷ rest) along = None
carried (suc left) model initiating [] along = Some (record { left = suc left; along = along })
carried (suc left) model initiating (instruction ∷ rest) along =
    one_carried model initiating (λ instructions a. carried left model initiating instructions a) rest along (out-Instruction instruction)

-- a path with the sequence that it arrived at
pub record Arrived : Type 0 where
  pub sequence : SequenceId
  pub path : List PathStep

-- an arrival, or the mark in the place of what is too long
pub data Arrival : Type 0 where
  too_long : Arrival
  arrives : (arrived : Arrived) → Arrival

-- the paths after instructions
abbrev pub after_instructions : Option Carried → (ℕ → Travelled → List Arrival) → List Arrival
after_instructions None go = too_long ∷ []
after_instructions (Some c) go = go c.left c.along

-- a fork's path takes the fork
abbrev pub with_fork : Travelled → Functional → ForkPath → Travelled
with_fork along functional path =
    record along { forks = along.forks ++ (record { name = functional.name; state = path.state }) ∷ [] }

-- what is made of what stands at an id, and nothing where nothing does
abbrev pub arrivals_from : {A : Type 0} → Option A → (A → List Arrival) → List Arrival
arrivals_from None go = []
arrivals_from (Some a) go = go a

-- the paths that arrive below a branch, when so many instructions may still be carried out
abbrev pub Below : Type 0
Below = ℕ → Branch → Travelled → List Arrival

-- a link counts as an instruction and leads to the initial state of its event tree
abbrev pub linked_arrivals : Below → Option EventTree → ℕ → Travelled → List Arrival
linked_arrivals below tree left along =
    if left == 0 then too_long ∷ [] else arrivals_from tree (λ t. below (left - 1) t.start along)

-- where a sequence goes after its instructions: without a link, the path has arrived at it
abbrev pub link_arrivals : Model → Below → SequenceId → Option TreeId → ℕ → Travelled → List Arrival
link_arrivals model below id None left along = arrives (record { sequence = id; path = along.steps }) ∷ []
link_arrivals model below id (Some tree) left along = linked_arrivals below (slice_get model.event_trees tree.0) left along

-- a sequence carries out its instructions first
abbrev pub sequence_arrivals : Model → ℕ → Below → SequenceId → ℕ → Travelled → Sequence → List Arrival
sequence_arrivals model initiating below id left along sequence =
    after_instructions (carried left model initiating sequence.instructions along) (λ l a. link_arrivals model below id sequence.link l a)

-- a fork gives the lists of its paths one after another, each with this fork taken last
abbrev pub fork_arrivals : Below → ℕ → Travelled → List ForkPath → Functional → List Arrival
fork_arrivals below left along paths functional = flat_map (λ path. below left path.branch (with_fork along functional path)) paths

-- where a branch goes after its instructions
abbrev pub end_arrivals : Model → ℕ → Below → ℕ → Travelled → BranchEnd-F BranchEnd Branch ForkPath → List Arrival
end_arrivals model initiating below left along (BranchEnd-F.Fork functional paths) =
    arrivals_from (slice_get model.functionals functional.0) (λ f. fork_arrivals below left along paths f)
end_arrivals model initiating below left along (BranchEnd-F.Sequence id) =
    arrivals_from (slice_get model.sequences id.0) (λ s. sequence_arrivals model initiating below id left along s)
end_arrivals model initiating below left along (BranchEnd-F.Branch id) =
    arrivals_from (slice_get model.branches id.0) (λ named. below left named.branch along)

-- All paths below a branch, in order. Branches lead through names and links to branches, so this is by
-- levels: a level for each branch on the way. More levels than there are branches on a way change nothing.
unfoldable pub arrivals : ℕ → Model → ℕ → ℕ → Branch → Travelled → List Arrival
arrivals zero model initiating left branch along = []
arrivals (suc levels) model initiating left branch along =
    after_instructions (carried left model initiating branch.instructions along)
    (λ l a. end_arrivals model initiating (λ m b c. arrivals levels model initiating m b c) l a (out-BranchEnd branch.end))

-- the paths below branches within some levels
abbrev pub below : ℕ → Model → ℕ → Below
below levels model initiating = λ left branch along. arrivals levels model initiating left branch along

-- the event tree of an initiating event
abbrev pub tree_of : Model → Option TreeId → Option EventTree
tree_of model None = None
tree_of model (Some tree) = slice_get model.event_trees tree.0

-- all paths of the initiating event at a place: from the initial state, with no step and no fork taken
abbrev pub paths_of : Model → ℕ → Initiating → List Arrival
paths_of model place initiating =
    arrivals_from (tree_of model initiating.tree) (λ tree. arrivals MAX_DEPTH model place MAX_INSTRUCTIONS tree.start (record { steps = []; forks = [] }))

-- the path arrived: it is no mark
abbrev pub HasArrived : Arrival → Type 0
HasArrived too_long = ⊥
HasArrived (arrives a) = Unit {0}
