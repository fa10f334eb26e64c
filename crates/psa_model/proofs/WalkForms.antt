-- What tests, instructions and branches are at each form, and what a walk is a level down.
use Rattle.std.proofs.Common.{◌≡◌, ℕ, suc, Bool, List, [], ◌∷◌, Some, refl, sym, ap, ◌∙◌}
use Rattle.psa_model.specs.declared.ids.BranchId.{BranchId}
use Rattle.psa_model.specs.declared.ids.FormulaId.{FormulaId}
use Rattle.psa_model.specs.declared.ids.FunctionalId.{FunctionalId}
use Rattle.psa_model.specs.declared.ids.HouseId.{HouseId}
use Rattle.psa_model.specs.declared.ids.InitiatingId.{InitiatingId}
use Rattle.psa_model.specs.declared.ids.RuleId.{RuleId}
use Rattle.psa_model.specs.declared.ids.SequenceId.{SequenceId}
use Rattle.psa_model.specs.declared.model.Model.{Model}
use Rattle.psa_model.specs.declared.walks.Branch.{Branch}
use Rattle.psa_model.specs.declared.walks.ForkPath.{ForkPath}
use Rattle.psa_model.specs.declared.walks.BranchEnd.TheOpen.{BranchEnd-F}
use Rattle.psa_model.specs.declared.walks.BranchEnd.TheViews.{out-BranchEnd, out-roll-BranchEnd}
use Rattle.psa_model.specs.declared.walks.BranchEnd.TheVariants as end
use Rattle.psa_model.specs.declared.walks.Instruction.{Instruction}
use Rattle.psa_model.specs.declared.walks.Instruction.TheOpen.{Instruction-F}
use Rattle.psa_model.specs.declared.walks.Instruction.TheViews.{out-Instruction, out-roll-Instruction}
use Rattle.psa_model.specs.declared.walks.Instruction.TheVariants as instruction
use Rattle.psa_model.specs.declared.walks.Test.{Test, map-Test}
use Rattle.psa_model.specs.declared.walks.Test.TheOpen.{Test-F}
use Rattle.psa_model.specs.declared.walks.Test.TheFolds.{fold-Test, fold-roll-Test}
use Rattle.psa_model.specs.declared.walks.Test.TheVariants as test
use Rattle.psa_model.specs.Paths.{Travelled, carried, one_carried, arrivals, after_instructions, end_arrivals}

-- the layer of each form of instruction
pub out-collect : (id : FormulaId) → out-Instruction (instruction.Collect id) ≡ Instruction-F.Collect id
out-collect id = ap out-Instruction (sym (instruction.rolls-Collect id)) ∙ out-roll-Instruction (Instruction-F.Collect id)

pub out-set : (id : HouseId) (state : Bool) → out-Instruction (instruction.SetHouse id state) ≡ Instruction-F.SetHouse id state
out-set id state = ap out-Instruction (sym (instruction.rolls-SetHouse id state)) ∙ out-roll-Instruction (Instruction-F.SetHouse id state)

pub out-rule : (id : RuleId) → out-Instruction (instruction.Rule id) ≡ Instruction-F.Rule id
out-rule id = ap out-Instruction (sym (instruction.rolls-Rule id)) ∙ out-roll-Instruction (Instruction-F.Rule id)

pub out-block : (inside : List Instruction) → out-Instruction (instruction.Block inside) ≡ Instruction-F.Block inside
out-block inside = ap out-Instruction (sym (instruction.rolls-Block inside)) ∙ out-roll-Instruction (Instruction-F.Block inside)

pub out-if : (condition : Test) (first second : List Instruction) → out-Instruction (instruction.If condition first second) ≡ Instruction-F.If condition first second
out-if condition first second =
    ap out-Instruction (sym (instruction.rolls-If condition first second)) ∙ out-roll-Instruction (Instruction-F.If condition first second)

-- the layer of each end of a branch
pub out-to : (id : SequenceId) → out-BranchEnd (end.Sequence id) ≡ BranchEnd-F.Sequence id
out-to id = ap out-BranchEnd (sym (end.rolls-Sequence id)) ∙ out-roll-BranchEnd (BranchEnd-F.Sequence id)

pub out-named : (id : BranchId) → out-BranchEnd (end.Branch id) ≡ BranchEnd-F.Branch id
out-named id = ap out-BranchEnd (sym (end.rolls-Branch id)) ∙ out-roll-BranchEnd (BranchEnd-F.Branch id)

pub out-fork : (id : FunctionalId) (paths : List ForkPath) → out-BranchEnd (end.Fork id paths) ≡ BranchEnd-F.Fork id paths
out-fork id paths = ap out-BranchEnd (sym (end.rolls-Fork id paths)) ∙ out-roll-BranchEnd (BranchEnd-F.Fork id paths)

-- a fold over tests, at each form of test
pub test-initiating : (step : Test-F Bool → Bool) (id : InitiatingId) → fold-Test Bool step (test.Initiating id) ≡ step (Test-F.Initiating id)
test-initiating step id = ap (fold-Test Bool step) (sym (test.rolls-Initiating id)) ∙ fold-roll-Test Bool step (Test-F.Initiating id)

pub test-functional : (step : Test-F Bool → Bool) (name state : List ℕ) → fold-Test Bool step (test.Functional name state) ≡ step (Test-F.Functional name state)
test-functional step name state = ap (fold-Test Bool step) (sym (test.rolls-Functional name state)) ∙ fold-roll-Test Bool step (Test-F.Functional name state)

pub test-all : (step : Test-F Bool → Bool) (tests : List Test) → fold-Test Bool step (test.All tests) ≡ step (map-Test Test Bool (fold-Test Bool step) (Test-F.All tests))
test-all step tests = ap (fold-Test Bool step) (sym (test.rolls-All tests)) ∙ fold-roll-Test Bool step (Test-F.All tests)

-- a level down
pub carried-nil : (left : ℕ) (model : Model) (initiating : ℕ) (along : Travelled) → carried (suc left) model initiating [] along ≡ Some (record { left = suc left; along = along })
unfolding carried
carried-nil left model initiating along = refl

-- instructions one after another: the first is carried out, then the rest
pub carried-suc : (left : ℕ) (model : Model) (initiating : ℕ) (one : Instruction) (rest : List Instruction) (along : Travelled) → carried (suc left) model initiating (one ∷ rest) along ≡ one_carried model initiating (λ is a. carried left model initiating is a) rest along (out-Instruction one)
unfolding carried
carried-suc left model initiating one rest along = refl

-- the arrivals of a branch are those of its end, behind its instructions
pub arrivals-suc : (levels : ℕ) (model : Model) (initiating left : ℕ) (branch : Branch) (along : Travelled) → arrivals (suc levels) model initiating left branch along ≡ after_instructions (carried left model initiating branch.instructions along) (λ l a. end_arrivals model initiating (λ m b c. arrivals levels model initiating m b c) l a (out-BranchEnd branch.end))
unfolding arrivals
arrivals-suc levels model initiating left branch along = refl
