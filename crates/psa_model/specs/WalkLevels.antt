-- Whether instructions and branches are within so many levels: what they refer to stands, conditionals have their
-- numbers of instructions, and the depth, a level for each element and each definition entered, is at most so many;
-- so no chain of references leads back. This project's own.
use Rattle.std.specs.Prelude.{◌==◌, ◌++◌, ℕ, zero, suc, Bool, true, false, length, nat_le, nat_lt, ◌&&◌}
use Rattle.std.specs.List.{slice_get, list_all}
use Rattle.psa_model.specs.declared.model.Model.{Model}
use Rattle.psa_model.specs.declared.walks.Branch.{Branch}
use Rattle.psa_model.specs.declared.walks.BranchEnd.{BranchEnd}
use Rattle.psa_model.specs.declared.walks.BranchEnd.TheOpen.{BranchEnd-F}
use Rattle.psa_model.specs.declared.walks.BranchEnd.TheViews.{out-BranchEnd}
use Rattle.psa_model.specs.declared.walks.ForkPath.{ForkPath}
use Rattle.psa_model.specs.declared.walks.Instruction.{Instruction}
use Rattle.psa_model.specs.declared.walks.Instruction.TheOpen.{Instruction-F}
use Rattle.psa_model.specs.declared.walks.Instruction.TheViews.{out-Instruction}
use Rattle.psa_model.specs.declared.walks.Test.{Test}
use Rattle.psa_model.specs.declared.walks.Test.TheOpen.{Test-F}
use Rattle.psa_model.specs.declared.walks.Test.TheViews.{out-Test}
use Rattle.psa_model.specs.PathLevels.{passes_there, link_within}
use Rattle.psa_model.specs.Truth.{within}

abbrev pub test_layer : Model → (Test → Bool) → Test-F Test → Bool
test_layer model below (Test-F.Initiating id) = nat_lt id.0 (length model.initiatings)
test_layer model below (Test-F.Functional name state) = true
test_layer model below (Test-F.All tests) = nat_le 1 (length tests) && list_all below tests
test_layer model below (Test-F.Any tests) = nat_le 1 (length tests) && list_all below tests
test_layer model below (Test-F.Not tests) = length tests == 1 && list_all below tests

unfoldable pub test_within : ℕ → Model → Test → Bool
test_within zero model test = false
test_within (suc levels) model test = test_layer model (λ t. test_within levels model t) (out-Test test)

-- `levels` is the number of levels below this one
abbrev pub instruction_layer : ℕ → Model → (Instruction → Bool) → Instruction-F Instruction → Bool
instruction_layer levels model below (Instruction-F.Collect id) =
    passes_there (slice_get model.formulas id.0) (λ formula. within levels model formula)
instruction_layer levels model below (Instruction-F.SetHouse house state) = nat_lt house.0 (length model.houses)
instruction_layer levels model below (Instruction-F.Block inside) = list_all below inside
instruction_layer levels model below (Instruction-F.Rule id) =
    passes_there (slice_get model.rules id.0) (λ rule. list_all below rule.instructions)
instruction_layer levels model below (Instruction-F.If test first second) =
    (length first == 1 && nat_le (length second) 1) && (test_within levels model test && list_all below (first ++ second))

unfoldable pub instruction_within : ℕ → Model → Instruction → Bool
instruction_within zero model one = false
instruction_within (suc levels) model one =
    instruction_layer levels model (λ i. instruction_within levels model i) (out-Instruction one)

abbrev pub end_layer : ℕ → Model → (Branch → Bool) → BranchEnd-F BranchEnd Branch ForkPath → Bool
end_layer levels model below (BranchEnd-F.Fork functional paths) =
    passes_there (slice_get model.functionals functional.0) (λ f. list_all (λ path. below path.branch) paths)
end_layer levels model below (BranchEnd-F.Sequence id) =
    passes_there (slice_get model.sequences id.0)
    (λ sequence. list_all (instruction_within levels model) sequence.instructions && link_within model below sequence.link)
end_layer levels model below (BranchEnd-F.Branch id) =
    passes_there (slice_get model.branches id.0) (λ named. below named.branch)

-- the instructions of a branch and its end are within so many levels
unfoldable pub walk_within : ℕ → Model → Branch → Bool
walk_within zero model branch = false
walk_within (suc levels) model branch =
    list_all (instruction_within (suc levels) model) branch.instructions
    && end_layer levels model (λ b. walk_within levels model b) (out-BranchEnd branch.end)
