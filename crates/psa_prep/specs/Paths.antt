-- What is made of a sequence: all that some path collected.
use Rattle.std.specs.Prelude.{◌≡◌, ◌≤◌, ℕ, true, false, List, ◌++◌, Some, drop, length, reverse}
use Rattle.std.specs.List.{slice_get, list_all, list_any}
use Rattle.psa_model.specs.declared.formula.Formula.{Formula}
use Rattle.psa_model.specs.declared.ids.FormulaId.{FormulaId}
use Rattle.psa_model.specs.declared.ids.InitiatingId.{InitiatingId}
use Rattle.psa_model.specs.declared.ids.SequenceId.{SequenceId}
use Rattle.psa_model.specs.declared.targets.PathStep.{PathStep}
use Rattle.psa_model.specs.declared.targets.Target.TheVariants.{Sequence}
use Rattle.psa_model.specs.Parts.{Truth, all_true, collected_on}
use Rattle.psa_model.specs.Ranks.{ranks_of}
use Rattle.psa_model.specs.Standing.{step_stands}
use Rattle.psa_model.specs.Targets.{Collected, collected}
use Rattle.psa_model.specs.Truth.{house_states}
use Rattle.psa_prep.specs.declared.builder.Builder.{Builder}
use Rattle.psa_prep.specs.declared.pairs.Pair.{Pair}
use Rattle.psa_prep.specs.declared.pairs.Signs.{Signs}
use Rattle.psa_prep.specs.declared.paths.Progress.{Progress}
use Rattle.psa_prep.specs.declared.paths.Task.{Task}
use Rattle.psa_prep.specs.declared.states.HouseStates.{HouseStates}
use Rattle.psa_prep.specs.declared.states.Changes.{Changes}
use Rattle.psa_prep.specs.Index.{IsIndex}
use Rattle.psa_prep.specs.Lowering.{AreRanks}
use Rattle.psa_prep.specs.Nodes.{nodes_of}
use Rattle.psa_prep.specs.Pairs.{Reads}
use Rattle.psa_prep.specs.Places.{Grown}
use Rattle.psa_prep.specs.Sound.{World, state_houses, formula_truth, IsSound, Made}
use Rattle.psa_prep.specs.States.{AreStates}

abbrev pub changes_of : HouseStates → List Changes
changes_of states = reverse states.changes.keys

abbrev pub task_world : Task → List Changes → World
task_world task changes = record { expanded = task.expanded.now; target = task.target.now; changes = changes }

pub record IsTask (task : Task) : Type 0 where
  pub has_index : IsIndex task.expanded.now task.index.now
  pub has_ranks : AreRanks (ranks_of task.expanded.now task.target.now) task.ranks.now

-- only the truth itself is asked for
abbrev pub yes_signs : Signs
yes_signs = record { yes = true; no = false }

pub record IsStarted (task : Task) (changes : List Changes) (builder : Builder) : Type 0 where
  pub states : AreStates (house_states task.expanded.now.model) changes
  pub sound : IsSound (task_world task changes) builder

-- the paths are those of the target, and stand
pub record ArePaths (task : Task) (paths : List (List PathStep)) : Type 0 where
  pub initiating : InitiatingId
  pub sequence : SequenceId
  pub is : task.target.now ≡ Sequence initiating sequence paths
  pub stand : list_all (λ path. list_all (step_stands task.expanded.now.model) path) paths ≡ true

-- the path is one of the target, and stands
pub record IsPath (task : Task) (path : List PathStep) : Type 0 where
  pub initiating : InitiatingId
  pub sequence : SequenceId
  pub paths : List (List PathStep)
  pub at_place : ℕ
  pub is : task.target.now ≡ Sequence initiating sequence paths
  pub found : slice_get paths at_place ≡ Some path
  pub stand : list_all (step_stands task.expanded.now.model) path ≡ true

-- The steps before a place are prepared: the pair reads as all that they collected.
pub record PathSoFar (task : Task) (path : List PathStep) (i : ℕ) (changes : List Changes) (builder : Builder) (progress : Progress) : Type 0 where
  pub so_far : List Collected
  pub rest : so_far ++ collected task.expanded.now.model (state_houses (task_world task changes) progress.number) (drop i path) ≡ collected_on task.expanded.now path
  pub reads : Reads yes_signs (all_true task.expanded.now task.target.now so_far) (nodes_of builder) progress.pair
  pub within : progress.number ≤ length changes
  pub started : IsStarted task changes builder

-- One step more is prepared.
pub record Stepped (task : Task) (path : List PathStep) (i : ℕ) (old new : List Changes) (before now : Builder) (progress : Progress) : Type 0 where
  pub prepared : PathSoFar task path i new now progress
  pub grown : Grown (nodes_of before) (nodes_of now)
  pub set : Grown old new

-- The pair reads as the truth; house states may have come in.
pub record MadeAt (task : Task) (f : Truth) (old new : List Changes) (before now : Builder) (pair : Pair) : Type 0 where
  pub reads : Reads yes_signs f (nodes_of now) pair
  pub grown : Grown (nodes_of before) (nodes_of now)
  pub set : Grown old new
  pub started : IsStarted task new now

-- all that a path collected
abbrev pub path_truth : Task → List PathStep → Truth
path_truth task path = all_true task.expanded.now task.target.now (collected_on task.expanded.now path)

-- .. for some of the paths
abbrev pub paths_truth : Task → List (List PathStep) → Truth
paths_truth task paths s = list_any (λ path. path_truth task path s) paths

-- a collected formula under house states
abbrev pub MadeFormula : Task → List Changes → ℕ → FormulaId → Builder → Builder → Pair → Type 0
MadeFormula task changes number id before now pair =
    (f : Formula) → slice_get task.expanded.now.model.formulas id.0 ≡ Some f
    → Made (task_world task changes) yes_signs (formula_truth (task_world task changes) (state_houses (task_world task changes) number) f) before now pair
