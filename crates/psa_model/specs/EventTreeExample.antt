-- A model of one initiating event and two event trees: forks in one another, a house event set on one path, two paths
-- to one sequence, and a sequence that links to the second tree; with a fault tree of two gates. This project's own.
use Rattle.std.specs.Prelude.{ℕ, List, [], ◌∷◌, Some, None, codes, false, true}
use Rattle.psa_model.specs.declared.formula.Connective.TheVariants.{And, Or, Not}
use Rattle.psa_model.specs.declared.formula.Formula.{Formula}
use Rattle.psa_model.specs.declared.formula.Formula.TheVariants as formula
use Rattle.psa_model.specs.declared.model.Gate.{Gate}
use Rattle.psa_model.specs.declared.model.Model.{Model}
use Rattle.psa_model.specs.declared.model.Sequence.{Sequence}
use Rattle.psa_model.specs.declared.model.Valued.TheVariants as valued
use Rattle.psa_model.specs.declared.targets.PathStep.{PathStep}
use Rattle.psa_model.specs.declared.targets.PathStep.TheVariants as step
use Rattle.psa_model.specs.declared.walks.Branch.{Branch}
use Rattle.psa_model.specs.declared.walks.BranchEnd.TheVariants as end
use Rattle.psa_model.specs.declared.walks.Instruction.{Instruction}
use Rattle.psa_model.specs.declared.walks.Instruction.TheVariants as instruction
use Rattle.psa_model.specs.ConditionExample.{at_line, without_value, to_sequence, fork_path, collect}

abbrev pub basic : ℕ → Formula
basic place = formula.Basic (record { 0 = place })

abbrev pub gate : ℕ → Formula
gate place = formula.Gate (record { 0 = place })

abbrev pub house : Formula
house = formula.House (record { 0 = 0 })

abbrev pub set_house : Instruction
set_house = instruction.SetHouse (record { 0 = 0 }) true

-- a branch of these instructions that ends at the sequence with a place
abbrev pub then_sequence : List Instruction → ℕ → Branch
then_sequence instructions place = record { instructions = instructions; end = end.Sequence (record { 0 = place }) }

abbrev pub second_fork : Branch
second_fork = record {
  instructions = collect 1 ∷ [];
  end = end.Fork (record { 0 = 1 }) (
      fork_path (codes "works") (then_sequence (set_house ∷ collect 2 ∷ []) 1)
      ∷ fork_path (codes "stuck") (then_sequence (collect 3 ∷ []) 1)
      ∷ fork_path (codes "fails") (to_sequence 2) ∷ []);
}

abbrev pub first_tree : Branch
first_tree = record {
  instructions = [];
  end = end.Fork (record { 0 = 0 }) (
      fork_path (codes "works") (then_sequence (collect 0 ∷ []) 0) ∷ fork_path (codes "fails") second_fork ∷ []);
}

abbrev pub second_tree : Branch
second_tree = then_sequence (set_house ∷ collect 4 ∷ []) 3

abbrev pub sequence : ℕ → List ℕ → ℕ → Sequence
sequence line name tree =
    record { name = name; place = at_line line; tree = record { 0 = tree }; instructions = []; link = None }

abbrev pub gate_of : ℕ → List ℕ → Formula → Gate
gate_of line name f = record { name = name; place = at_line line; tree = record { 0 = 0 }; formula = f }

abbrev pub event_tree_model : Model
event_tree_model = record {
  gates =
      gate_of 27 (codes "GA") (formula.Connective Or 0 0 (basic 0 ∷ formula.Connective And 0 0 (basic 3 ∷ house ∷ []) ∷ []))
      ∷ gate_of 28 (codes "GB") (formula.Connective And 0 0 (basic 1 ∷ house ∷ [])) ∷ [];
  basics = without_value 29 (codes "a") ∷ without_value 30 (codes "b") ∷ without_value 31 (codes "c") ∷ without_value 32 (codes "d") ∷ [];
  houses = record { name = codes "H"; place = at_line 33; state = false } ∷ [];
  parameters = [];
  fault_trees = record { name = codes "F"; place = at_line 26 } ∷ [];
  groups = [];
  rules = [];
  event_trees =
      record { name = codes "E1"; place = at_line 3; start = first_tree }
      ∷ record { name = codes "E2"; place = at_line 22; start = second_tree } ∷ [];
  functionals =
      record { name = codes "FA"; place = at_line 4; tree = record { 0 = 0 } }
      ∷ record { name = codes "FB"; place = at_line 5; tree = record { 0 = 0 } } ∷ [];
  sequences =
      sequence 6 (codes "OK") 0 ∷ sequence 7 (codes "BAD") 0
      ∷ record (sequence 8 (codes "GO") 0) { link = Some (record { 0 = 1 }) } ∷ sequence 23 (codes "END") 1 ∷ [];
  branches = [];
  initiatings = record { name = codes "I"; place = at_line 2; tree = Some (record { 0 = 0 }) } ∷ [];
  formulas = formula.Connective Not 0 0 (gate 0 ∷ []) ∷ gate 0 ∷ gate 1 ∷ basic 2 ∷ gate 1 ∷ [];
  order = valued.Basic (record { 0 = 0 }) ∷ valued.Basic (record { 0 = 1 }) ∷ valued.Basic (record { 0 = 2 }) ∷ valued.Basic (record { 0 = 3 }) ∷ [];
}

-- the step that sets the house event
abbrev pub sets_house : PathStep
sets_house = step.Set (record { 0 = 0 }) true
