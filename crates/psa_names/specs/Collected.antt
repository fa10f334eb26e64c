-- The formulas that instructions collect, in document order, and instructions and branches with the places of these
-- formulas in the model. (This project's own.)
use Rattle.std.specs.Prelude.{ℕ, zero, suc, ◌+◌, Bool, List, [], ◌∷◌, ◌++◌, map, length, sum, flat_map, ◌&&◌, ◌||◌, not, if◌then◌else◌}
use Rattle.psa_model.specs.declared.walks.Instruction.{Instruction}
use Rattle.psa_model.specs.declared.walks.Instruction.TheVariants as instruction
use Rattle.psa_model.specs.declared.walks.Branch.{Branch}
use Rattle.psa_model.specs.declared.walks.ForkPath.{ForkPath}
use Rattle.psa_model.specs.declared.walks.BranchEnd.{BranchEnd}
use Rattle.psa_model.specs.declared.walks.BranchEnd.TheVariants as end
use Rattle.psa_model.specs.declared.draft.DefinitionKind.TheVariants as kind
use Rattle.psa_model.specs.declared.draft.DraftBody.{DraftBody}
use Rattle.psa_model.specs.declared.draft.DraftBody.TheVariants as body
use Rattle.psa_model.specs.declared.draft.EventKind.TheVariants as asked
use Rattle.psa_model.specs.declared.draft.DraftFormula.{DraftFormula}
use Rattle.psa_model.specs.declared.draft.DraftInstruction.{DraftInstruction}
use Rattle.psa_model.specs.declared.draft.DraftInstruction.TheOpen.{DraftInstruction-F}
use Rattle.psa_model.specs.declared.draft.DraftInstruction.TheFolds.{fold-DraftInstruction}
use Rattle.psa_model.specs.declared.draft.DraftBranch.{DraftBranch}
use Rattle.psa_model.specs.declared.draft.DraftForkPath.{DraftForkPath}
use Rattle.psa_model.specs.declared.draft.DraftBranchEnd.{DraftBranchEnd, out-DraftBranchEnd}
use Rattle.psa_model.specs.declared.draft.DraftBranchEnd.TheOpen.{DraftBranchEnd-F}
use Rattle.psa_model.specs.declared.limits.TheConstants.{MAX_NESTING}
use Rattle.psa_names.specs.Outlines.{event, rule, sequence, branch, functional_event, Entry, Entries}
use Rattle.psa_model.specs.Drafts.{Position, is_event_tree, position_of, reference_position, stands_before}
use Rattle.psa_names.specs.Ids.{referred_id}
use Rattle.psa_names.specs.Resolved.{resolved_test}

-- ---- what is collected

-- the formulas of one instruction over those inside it
abbrev pub collected_layer : DraftInstruction-F (List DraftFormula) → List DraftFormula
collected_layer (DraftInstruction-F.Collect formula) = formula ∷ []
collected_layer (DraftInstruction-F.SetHouse name state) = []
collected_layer (DraftInstruction-F.Block inside) = flat_map (λ all. all) inside
collected_layer (DraftInstruction-F.Rule name) = []
collected_layer (DraftInstruction-F.If test first second) = flat_map (λ all. all) first ++ flat_map (λ all. all) second

-- the formulas that an instruction collects
abbrev pub collected_by : DraftInstruction → List DraftFormula
collected_by = fold-DraftInstruction (List DraftFormula) collected_layer

-- the formulas below the end of a branch
abbrev pub end_collected : (DraftBranch → List DraftFormula) → DraftBranchEnd-F DraftBranchEnd DraftBranch DraftForkPath → List DraftFormula
end_collected below (DraftBranchEnd-F.Fork name paths) = flat_map (λ path. below path.branch) paths
end_collected below (DraftBranchEnd-F.Sequence name) = []
end_collected below (DraftBranchEnd-F.Branch name) = []

-- the formulas of a branch in document order, within so many levels
unfoldable pub branch_collected : ℕ → DraftBranch → List DraftFormula
branch_collected zero one = []
branch_collected (suc levels) one =
    flat_map collected_by one.instructions
    ++ end_collected (λ below. branch_collected levels below) (out-DraftBranchEnd one.end)

-- the formulas that a definition's body collects
abbrev pub collected_in : DraftBody → List DraftFormula
collected_in (body.Steps instructions link) = flat_map collected_by instructions
collected_in (body.Walk one) = branch_collected MAX_NESTING one
collected_in _ = []

-- ---- document order of contents

-- the position of the element that ends a branch
abbrev pub end_position : DraftBranchEnd-F DraftBranchEnd DraftBranch DraftForkPath → Position
end_position (DraftBranchEnd-F.Fork name paths) = reference_position name
end_position (DraftBranchEnd-F.Sequence name) = reference_position name
end_position (DraftBranchEnd-F.Branch name) = reference_position name

-- Where the contents of a definition stand. An event tree's initial state may stand behind definitions inside the tree; a
-- draft has no position of it, but its end stands in it.
abbrev pub contents_position : Entry → Position
contents_position one = if is_event_tree one.kind then of_body one.body else position_of one.definition
  where
    of_body : DraftBody → Position
    of_body (body.Walk start) = end_position (out-DraftBranchEnd start.end)
    of_body _ = position_of one.definition

-- contents at one position stand in the order of their definitions
abbrev pub contents_before : Entry → Entry → Bool
contents_before one other =
    stands_before (contents_position one) (contents_position other)
    || (not (stands_before (contents_position other) (contents_position one))
    && stands_before (position_of one.definition) (position_of other.definition))

-- an entry put in its place among entries that are in the order of their contents
abbrev pub placed : Entry → List Entry → List Entry
placed one [] = one ∷ []
placed one (other ∷ others) = if contents_before other one then other ∷ placed one others else one ∷ other ∷ others

-- definitions in the order of their contents
abbrev pub by_contents : List Entry → List Entry
by_contents [] = []
by_contents (one ∷ others) = placed one (by_contents others)

-- how many formulas are collected before those of a definition
abbrev pub collected_before : Entries → Entry → ℕ
collected_before entries from =
    sum (map (λ one. if contents_before one from then length (collected_in one.body) else 0) entries)

-- ---- instructions and branches by the places of what they collect

-- something that collects so many formulas, given the number of those before it
pub record Collecting (A : Type 0) : Type 0 where
  pub size : ℕ
  pub behind : ℕ → A

-- how many formulas a list of instructions or paths collects
abbrev pub total_size : {A : Type 0} → List (Collecting A) → ℕ
total_size all = sum (map (λ one. one.size) all)

-- one after another, the first behind so many formulas
abbrev pub all_behind : {A : Type 0} → ℕ → List (Collecting A) → List A
all_behind number [] = []
all_behind number (one ∷ others) = one.behind number ∷ all_behind (number + one.size) others

-- one instruction with its names found, over those inside it; formulas are numbered from a first number on
abbrev pub resolved_instruction_layer : Entries → Entry → DraftInstruction-F (Collecting Instruction) → Collecting Instruction
resolved_instruction_layer entries from (DraftInstruction-F.Collect formula) =
    record { size = 1; behind = λ number. instruction.Collect (record { 0 = number }) }
resolved_instruction_layer entries from (DraftInstruction-F.SetHouse name state) = record {
  size = 0;
  behind = λ number. instruction.SetHouse (record { 0 = referred_id kind.HouseEvent (event asked.House) entries from name }) state;
}
resolved_instruction_layer entries from (DraftInstruction-F.Block inside) =
    record { size = total_size inside; behind = λ number. instruction.Block (all_behind number inside) }
resolved_instruction_layer entries from (DraftInstruction-F.Rule name) =
    record { size = 0; behind = λ number. instruction.Rule (record { 0 = referred_id kind.Rule rule entries from name }) }
resolved_instruction_layer entries from (DraftInstruction-F.If test first second) = record {
  size = total_size first + total_size second;
  behind = λ number. instruction.If (resolved_test entries from test) (all_behind number first) (all_behind (number + total_size first) second);
}

-- an instruction with its names found, by the number of its first formula
abbrev pub resolved_instruction : Entries → Entry → DraftInstruction → Collecting Instruction
resolved_instruction entries from = fold-DraftInstruction (Collecting Instruction) (resolved_instruction_layer entries from)

-- instructions with their names found, by the number of their first formula
abbrev pub resolved_instructions : Entries → Entry → ℕ → List DraftInstruction → List Instruction
resolved_instructions entries from number all = all_behind number (map (resolved_instruction entries from) all)

-- a path of a fork with its names found
abbrev pub resolved_path : (ℕ → DraftBranch → Branch) → DraftForkPath → Collecting ForkPath
resolved_path below path = record {
  size = length (branch_collected MAX_NESTING path.branch);
  behind = λ number. record { state = path.state; branch = below number path.branch };
}

-- the end of a branch with its names found
abbrev pub resolved_end : Entries → Entry → (ℕ → DraftBranch → Branch) → ℕ → DraftBranchEnd-F DraftBranchEnd DraftBranch DraftForkPath → BranchEnd
resolved_end entries from below number (DraftBranchEnd-F.Fork name paths) =
    end.Fork (record { 0 = referred_id kind.FunctionalEvent functional_event entries from name })
    (all_behind number (map (resolved_path below) paths))
resolved_end entries from below number (DraftBranchEnd-F.Sequence name) =
    end.Sequence (record { 0 = referred_id kind.Sequence sequence entries from name })
resolved_end entries from below number (DraftBranchEnd-F.Branch name) =
    end.Branch (record { 0 = referred_id kind.Branch branch entries from name })

-- what stands for a branch where there is none
abbrev pub no_branch : Branch
no_branch = record { instructions = []; end = end.Sequence (record { 0 = 0 }) }

-- a branch in a definition behind so many collected formulas, by levels
unfoldable pub resolved_branch : ℕ → Entries → Entry → ℕ → DraftBranch → Branch
resolved_branch zero entries from number one = no_branch
resolved_branch (suc levels) entries from number one = record {
  instructions = resolved_instructions entries from number one.instructions;
  end = resolved_end entries from (λ behind below. resolved_branch levels entries from behind below)
      (number + length (flat_map collected_by one.instructions)) (out-DraftBranchEnd one.end);
}
