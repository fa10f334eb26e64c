-- Each path has at most so many steps, and where no fault is found there are at most so many paths, each of which
-- arrived.
use Rattle.std.proofs.Common.{◌≡◌, ◌≤◌, ◌+◌, ◌-◌, ◌==◌, ℕ, zero, suc, Bool, true, false, List, [], ◌∷◌, ◌++◌, Option, None, Some, length, if◌then◌else◌, refl, arith}
use Rattle.std.proofs.lemmas.List.{length-append}
use Rattle.std.proofs.lemmas.List.Elements.{All-from_recursion}
use Rattle.std.specs.List.{All, AllByRecursion, slice_get}
use Rattle.psa_model.specs.declared.ids.SequenceId.{SequenceId}
use Rattle.psa_model.specs.declared.ids.TreeId.{TreeId}
use Rattle.psa_model.specs.declared.limits.TheConstants.{MAX_INSTRUCTIONS}
use Rattle.psa_model.specs.declared.model.TheConstants.{MAX_DEPTH}
use Rattle.psa_model.specs.declared.model.Functional.{Functional}
use Rattle.psa_model.specs.declared.model.Initiating.{Initiating}
use Rattle.psa_model.specs.declared.model.Model.{Model}
use Rattle.psa_model.specs.declared.targets.PathStep.{PathStep}
use Rattle.psa_model.specs.declared.targets.PathStep.TheVariants as step
use Rattle.psa_model.specs.declared.walks.Branch.{Branch}
use Rattle.psa_model.specs.declared.walks.BranchEnd.{BranchEnd}
use Rattle.psa_model.specs.declared.walks.BranchEnd.TheOpen.{BranchEnd-F}
use Rattle.psa_model.specs.declared.walks.BranchEnd.TheViews.{out-BranchEnd}
use Rattle.psa_model.specs.declared.walks.ForkPath.{ForkPath}
use Rattle.psa_model.specs.declared.walks.Instruction.{Instruction}
use Rattle.psa_model.specs.declared.walks.Instruction.TheOpen.{Instruction-F}
use Rattle.psa_model.specs.declared.walks.Instruction.TheViews.{out-Instruction}
use Rattle.psa_model.specs.Paths.{Travelled, Carried, Arrived, Arrival, too_long, arrives, with_step, with_fork, one_carried, carried, after_instructions, Below, arrivals_from, link_arrivals, fork_arrivals, end_arrivals, arrivals, tree_of, paths_of}
use Rattle.psa_model.specs.PathTargets.{arrived_in}

-- the steps so far and the instructions left are together at most n
abbrev pub Bounded : ℕ → Option Carried → Type 0
Bounded n None = Unit {0}
Bounded n (Some c) = length c.along.steps + c.left ≤ n

step-longer : (along : Travelled) (step : PathStep) → length (with_step along step).steps ≡ length along.steps + 1
step-longer along step = length-append along.steps (step ∷ [])

one-bounded : (n left : ℕ) (model : Model) (initiating : ℕ) (go : List Instruction → Travelled → Option Carried) → ((is : List Instruction) (a : Travelled) → length a.steps + left ≤ n → Bounded n (go is a)) → (rest : List Instruction) (along : Travelled) (layer : Instruction-F Instruction) → length along.steps + suc left ≤ n → Bounded n (one_carried model initiating go rest along layer)
one-bounded n left model initiating go each rest along (Instruction-F.Collect id) h =
    each rest (with_step along (step.Collect id)) (omega (arith, step-longer along (step.Collect id)))
one-bounded n left model initiating go each rest along (Instruction-F.SetHouse house state) h =
    each rest (with_step along (step.Set house state)) (omega (arith, step-longer along (step.Set house state)))
one-bounded n left model initiating go each rest along (Instruction-F.Block inner) h = each _ along (omega arith)
one-bounded n left model initiating go each rest along (Instruction-F.Rule id) h = each _ along (omega arith)
one-bounded n left model initiating go each rest along (Instruction-F.If test first second) h = each _ along (omega arith)

carried-bounded : (n left : ℕ) (model : Model) (initiating : ℕ) (is : List Instruction) (along : Travelled) → length along.steps + left ≤ n → Bounded n (carried left model initiating is along)
unfolding carried
carried-bounded n zero model initiating [] along h = h
carried-bounded n zero model initiating (i ∷ is) along h = tt
carried-bounded n (suc left) model initiating [] along h = h
carried-bounded n (suc left) model initiating (i ∷ is) along h =
    one-bounded n left model initiating _ (λ js a k. carried-bounded n left model initiating js a k) is along (out-Instruction i) h

-- an arrival of at most n steps
abbrev pub IsShort : ℕ → Arrival → Type 0
IsShort n too_long = Unit {0}
IsShort n (arrives a) = length a.path ≤ n

-- arrivals of at most n steps each
abbrev pub AreShort : ℕ → List Arrival → Type 0
AreShort n = AllByRecursion (IsShort n)

append-short : (n : ℕ) (xs ys : List Arrival) → AreShort n xs → AreShort n ys → AreShort n (xs ++ ys)
append-short n [] ys h k = k
append-short n (x ∷ xs) ys h k = (h.0, append-short n xs ys h.1 k)

after-short : (n : ℕ) (outcome : Option Carried) (go : ℕ → Travelled → List Arrival) → Bounded n outcome → ((left : ℕ) (a : Travelled) → length a.steps + left ≤ n → AreShort n (go left a)) → AreShort n (after_instructions outcome go)
after-short n None go h each = (tt, tt)
after-short n (Some c) go h each = each c.left c.along h

from-short : {A : Type 0} (n : ℕ) (found : Option A) (go : A → List Arrival) → ((a : A) → AreShort n (go a)) → AreShort n (arrivals_from found go)
from-short n None go each = tt
from-short n (Some a) go each = each a

chosen-short : (n : ℕ) (b : Bool) (xs : List Arrival) → (b ≡ false → AreShort n xs) → AreShort n (if b then too_long ∷ [] else xs)
chosen-short n true xs h = (tt, tt)
chosen-short n false xs h = h refl

module _ (n : ℕ) (model : Model) (initiating : ℕ) (below : Below) (each : (left : ℕ) (branch : Branch) (along : Travelled) → length along.steps + left ≤ n → AreShort n (below left branch along)) where
  fork-short : (left : ℕ) (along : Travelled) (paths : List ForkPath) (functional : Functional) → length along.steps + left ≤ n → AreShort n (fork_arrivals below left along paths functional)
  fork-short left along [] functional h = tt
  fork-short left along (path ∷ paths) functional h =
      append-short n _ _ (each left path.branch (with_fork along functional path) h) (fork-short left along paths functional h)

  link-short : (id : SequenceId) (link : Option TreeId) (left : ℕ) (along : Travelled) → length along.steps + left ≤ n → AreShort n (link_arrivals model below id link left along)
  link-short id None left along h = (omega arith, tt)
  link-short id (Some tree) left along h =
      chosen-short n (left == 0) _ (λ some. from-short n (slice_get model.event_trees tree.0) _ (λ t. each (left - 1) t.start along (omega arith)))

  end-short : (left : ℕ) (along : Travelled) (end : BranchEnd-F BranchEnd Branch ForkPath) → length along.steps + left ≤ n → AreShort n (end_arrivals model initiating below left along end)
  end-short left along (BranchEnd-F.Fork functional paths) h =
      from-short n (slice_get model.functionals functional.0) _ (λ f. fork-short left along paths f h)
  end-short left along (BranchEnd-F.Sequence id) h =
      from-short n (slice_get model.sequences id.0) _ (λ s.
      after-short n (carried left model initiating s.instructions along) _ (carried-bounded n left model initiating s.instructions along h)
      (λ l a k. link-short id s.link l a k))
  end-short left along (BranchEnd-F.Branch id) h =
      from-short n (slice_get model.branches id.0) _ (λ named. each left named.branch along h)

arrivals-short : (n levels : ℕ) (model : Model) (initiating left : ℕ) (branch : Branch) (along : Travelled) → length along.steps + left ≤ n → AreShort n (arrivals levels model initiating left branch along)
unfolding arrivals
arrivals-short n zero model initiating left branch along h = tt
arrivals-short n (suc levels) model initiating left branch along h =
    after-short n (carried left model initiating branch.instructions along) _ (carried-bounded n left model initiating branch.instructions along h)
    (λ l a k. end-short n model initiating (λ m b c. arrivals levels model initiating m b c) (λ m b c j. arrivals-short n levels model initiating m b c j) l a (out-BranchEnd branch.end) k)

paths-short : (model : Model) (place : ℕ) (initiating : Initiating) → AreShort MAX_INSTRUCTIONS (paths_of model place initiating)
paths-short model place initiating =
    from-short MAX_INSTRUCTIONS (tree_of model initiating.tree) _ (λ tree. arrivals-short MAX_INSTRUCTIONS MAX_DEPTH model place MAX_INSTRUCTIONS tree.start _ (omega arith))

arrived-short : (n : ℕ) (all : List Arrival) → AreShort n all → AllByRecursion (λ a. length a.path ≤ n) (arrived_in all)
arrived-short n [] h = tt
arrived-short n (too_long ∷ all) h = arrived-short n all h.1
arrived-short n (arrives a ∷ all) h = (h.0, arrived-short n all h.1)

-- each path that arrives has at most as many steps as instructions may be carried out
pub short-paths : (model : Model) (place : ℕ) (initiating : Initiating) → All (λ a. length a.path ≤ MAX_INSTRUCTIONS) (arrived_in (paths_of model place initiating))
short-paths model place initiating =
    All-from_recursion (λ (a : Arrived). length a.path ≤ MAX_INSTRUCTIONS) (arrived_in (paths_of model place initiating))
    (arrived-short MAX_INSTRUCTIONS (paths_of model place initiating) (paths-short model place initiating))
