-- A model of two initiating events that share an event tree: its sequence follows a rule with a condition, which
-- collects one event where the walk is that of the first initiating event and the fork took `down`, else the other.
-- This project's own.
use Rattle.std.specs.Prelude.{ℕ, List, [], ◌∷◌, Some, None, codes}
use Rattle.psa_model.specs.declared.formula.Formula.TheVariants as formula
use Rattle.psa_model.specs.declared.ids.Place.{Place}
use Rattle.psa_model.specs.declared.model.BasicEvent.{BasicEvent}
use Rattle.psa_model.specs.declared.model.Model.{Model}
use Rattle.psa_model.specs.declared.model.Valued.TheVariants as valued
use Rattle.psa_model.specs.declared.targets.PathStep.{PathStep}
use Rattle.psa_model.specs.declared.targets.PathStep.TheVariants as step
use Rattle.psa_model.specs.declared.targets.Target.{Target}
use Rattle.psa_model.specs.declared.targets.Target.TheVariants as target
use Rattle.psa_model.specs.declared.walks.Branch.{Branch}
use Rattle.psa_model.specs.declared.walks.BranchEnd.TheVariants as end
use Rattle.psa_model.specs.declared.walks.ForkPath.{ForkPath}
use Rattle.psa_model.specs.declared.walks.Instruction.{Instruction}
use Rattle.psa_model.specs.declared.walks.Instruction.TheVariants as instruction
use Rattle.psa_model.specs.declared.walks.Test.{Test}
use Rattle.psa_model.specs.declared.walks.Test.TheVariants as test

abbrev pub at_line : ℕ → Place
at_line line = record { file = 0; line = line }

abbrev pub without_value : ℕ → List ℕ → BasicEvent
without_value line name = record { name = name; place = at_line line; expression = None }

abbrev pub to_sequence : ℕ → Branch
to_sequence place = record { instructions = []; end = end.Sequence (record { 0 = place }) }

abbrev pub fork_path : List ℕ → Branch → ForkPath
fork_path state branch = record { state = state; branch = branch }

abbrev pub collect : ℕ → Instruction
collect place = instruction.Collect (record { 0 = place })

abbrev pub condition : Test
condition = test.All (test.Initiating (record { 0 = 0 }) ∷ test.Functional (codes "FA") (codes "down") ∷ [])

abbrev pub condition_start : Branch
condition_start = record {
  instructions = [];
  end = end.Fork (record { 0 = 0 }) (fork_path (codes "up") (to_sequence 0) ∷ fork_path (codes "down") (to_sequence 0) ∷ []);
}

abbrev pub condition_model : Model
condition_model = record {
  gates = [];
  basics = without_value 10 (codes "a") ∷ without_value 10 (codes "b") ∷ [];
  houses = [];
  parameters = [];
  fault_trees = [];
  groups = [];
  rules = record { name = codes "R"; place = at_line 9; instructions = instruction.If condition (collect 0 ∷ []) (collect 1 ∷ []) ∷ [] } ∷ [];
  event_trees = record { name = codes "E"; place = at_line 4; start = condition_start } ∷ [];
  functionals = record { name = codes "FA"; place = at_line 5; tree = record { 0 = 0 } } ∷ [];
  sequences = record { name = codes "S"; place = at_line 6; tree = record { 0 = 0 }; instructions = instruction.Rule (record { 0 = 0 }) ∷ []; link = None } ∷ [];
  branches = [];
  initiatings =
      record { name = codes "I"; place = at_line 2; tree = Some (record { 0 = 0 }) }
      ∷ record { name = codes "J"; place = at_line 3; tree = Some (record { 0 = 0 }) } ∷ [];
  formulas = formula.Basic (record { 0 = 0 }) ∷ formula.Basic (record { 0 = 1 }) ∷ [];
  order = valued.Basic (record { 0 = 0 }) ∷ valued.Basic (record { 0 = 1 }) ∷ [];
}

-- the step that collects the formula with a place
abbrev pub collects : ℕ → PathStep
collects place = step.Collect (record { 0 = place })

-- a sequence under an initiating event, each by its place, with the paths to it
abbrev pub sequence_target : ℕ → ℕ → List (List PathStep) → Target
sequence_target initiating sequence paths =
    target.Sequence (record { 0 = initiating }) (record { 0 = sequence }) paths
