-- Instructions and branches that are nested within so many levels in a draft are nested within as many in the model.
use Rattle.std.proofs.Common.{◌≡◌, ◌≤◌, ◌<◌, ◌+◌, ◌==◌, ℕ, zero, suc, Bool, true, List, [], ◌∷◌, ◌++◌, Some, None, map, length, ◌&&◌, refl, sym, ap, ◌∙◌, subst, arith}
use Rattle.std.proofs.lemmas.Bool.{and_parts, and_from, le-leb}
use Rattle.std.specs.Prelude.{max, nat_le}
use Rattle.std.specs.List.{list_all}
use Rattle.psa_model.specs.declared.walks.BranchEnd.{out-BranchEnd}
use Rattle.psa_model.specs.declared.walks.ForkPath.{ForkPath}
use Rattle.psa_model.specs.declared.walks.Instruction.{Instruction}
use Rattle.psa_model.specs.declared.walks.Instruction.TheOpen.{Instruction-F}
use Rattle.psa_model.specs.declared.walks.Instruction.TheFolds.{fold-roll-Instruction}
use Rattle.psa_model.specs.declared.walks.Instruction.TheVariants as instruction
use Rattle.psa_model.specs.declared.walks.Test.{Test}
use Rattle.psa_model.specs.declared.ids.FormulaId.{FormulaId}
use Rattle.psa_model.specs.declared.ids.HouseId.{HouseId}
use Rattle.psa_model.specs.declared.ids.RuleId.{RuleId}
use Rattle.psa_model.specs.declared.draft.DefinitionKind.TheVariants as kind
use Rattle.psa_model.specs.declared.draft.EventKind.TheVariants as asked
use Rattle.psa_model.specs.declared.draft.DraftInstruction.{DraftInstruction, out-DraftInstruction}
use Rattle.psa_model.specs.declared.draft.DraftInstruction.TheOpen.{DraftInstruction-F}
use Rattle.psa_model.specs.declared.draft.DraftInstruction.TheFolds.{fold_out-DraftInstruction, map-DraftInstruction}
use Rattle.psa_model.specs.declared.draft.DraftBranch.{DraftBranch}
use Rattle.psa_model.specs.declared.draft.DraftForkPath.{DraftForkPath}
use Rattle.psa_model.specs.declared.draft.DraftBranchEnd.{DraftBranchEnd, out-DraftBranchEnd}
use Rattle.psa_model.specs.declared.draft.DraftBranchEnd.TheOpen.{DraftBranchEnd-F}
use Rattle.psa_model.specs.Drafts.{Contents, test_contents, instruction_contents, instruction_step, path_contents, end_contents, branch_contents}
use Rattle.psa_model.specs.Models.{greatest, test_nesting, instruction_nesting, instruction_nesting_step, are_nested, end_is_nested, is_nested}
use Rattle.psa_model.proofs.WalkForms.{out-to, out-named, out-fork}
use Rattle.psa_names.specs.Outlines.{Entry, Entries, event, rule, sequence, branch, functional_event}
use Rattle.psa_names.specs.Ids.{referred_id}
use Rattle.psa_names.specs.Resolved.{resolved_test}
use Rattle.psa_names.specs.Collected.{Collecting, total_size, all_behind, resolved_instruction, resolved_instruction_layer, resolved_path, resolved_end, resolved_branch}
use Rattle.psa_names.proofs.ListPlaces.{all-append}
use Rattle.psa_checks.proofs.SoundElements.{together-numbers}
use Rattle.psa_names.proofs.ElementNesting.{are_shallow, inside-shallow, no-nesting, greatest-below}
use Rattle.psa_checks.proofs.BodyNesting.{test-nested}
use Rattle.psa_names.proofs.BranchLevels.{no-instruction, shallow-suc, path-shallow}
use Rattle.psa_checks.proofs.BranchForms.{no-depth, numbers-suc}

-- ---- instructions

nests-collect : (id : FormulaId) → instruction_nesting (instruction.Collect id) ≡ 1
nests-collect id = ap instruction_nesting (sym (instruction.rolls-Collect id))
    ∙ fold-roll-Instruction ℕ instruction_nesting_step (Instruction-F.Collect id)

nests-set : (id : HouseId) (state : Bool) → instruction_nesting (instruction.SetHouse id state) ≡ 1
nests-set id state = ap instruction_nesting (sym (instruction.rolls-SetHouse id state))
    ∙ fold-roll-Instruction ℕ instruction_nesting_step (Instruction-F.SetHouse id state)

nests-rule : (id : RuleId) → instruction_nesting (instruction.Rule id) ≡ 1
nests-rule id = ap instruction_nesting (sym (instruction.rolls-Rule id))
    ∙ fold-roll-Instruction ℕ instruction_nesting_step (Instruction-F.Rule id)

nests-block : (all : List Instruction)
    → instruction_nesting (instruction.Block all) ≡ suc (greatest (map instruction_nesting all))
nests-block all = ap instruction_nesting (sym (instruction.rolls-Block all))
    ∙ fold-roll-Instruction ℕ instruction_nesting_step (Instruction-F.Block all)

nests-if : (test : Test) (first second : List Instruction)
    → instruction_nesting (instruction.If test first second)
    ≡ suc (max (test_nesting test) (greatest (map instruction_nesting first ++ map instruction_nesting second)))
nests-if test first second =
    ap instruction_nesting (sym (instruction.rolls-If test first second))
    ∙ fold-roll-Instruction ℕ instruction_nesting_step (Instruction-F.If test first second)

-- each instruction nested within these levels is nested within as many in the model
abbrev NestedAt : Entries → ℕ → Type 0
NestedAt entries levels = (from : Entry) (number : ℕ) (i : DraftInstruction)
    → are_shallow levels (instruction_contents i ∷ []) ≡ true
    → instruction_nesting ((resolved_instruction entries from i).behind number) ≤ levels

each-nested : (levels : ℕ) (entries : Entries) (from : Entry) (number : ℕ) → NestedAt entries levels
    → (all : List DraftInstruction) → are_shallow levels (map instruction_contents all) ≡ true
    → are_nested levels (all_behind number (map (resolved_instruction entries from) all)) ≡ true
each-nested levels entries from number at [] h = refl
each-nested levels entries from number at (i ∷ all) h =
    let parts = and_parts (nat_le (instruction_contents i).nesting levels) _ h in
    and_from _ _
    (le-leb _ levels (at from number i (and_from _ true parts.0 refl)))
    (each-nested levels entries from (number + (resolved_instruction entries from i).size) at all parts.1)

greatest-joined : (levels : ℕ) (ns ms : List ℕ) → greatest ns ≤ levels → greatest ms ≤ levels
    → greatest (ns ++ ms) ≤ levels
greatest-joined levels [] ms h k = k
greatest-joined levels (n ∷ ns) ms h k = let rest = greatest-joined levels ns ms (omega arith) k in omega
    (arith, h, rest)

instruction-layer : (levels : ℕ) (entries : Entries) (from : Entry) (number : ℕ) → NestedAt entries levels
    → (x : DraftInstruction-F DraftInstruction)
    → are_shallow (suc levels) (instruction_step
    (map-DraftInstruction DraftInstruction Contents instruction_contents x) ∷ []) ≡ true
    → instruction_nesting ((resolved_instruction_layer entries from
    (map-DraftInstruction DraftInstruction (Collecting Instruction) (resolved_instruction entries from) x)).behind
    number) ≤ suc levels
instruction-layer levels entries from number below (DraftInstruction-F.Collect f) h = let one =
    nests-collect (record { 0 = number }) in omega (arith, one)
instruction-layer levels entries from number below (DraftInstruction-F.SetHouse name state) h =
    let one = nests-set (record { 0 = referred_id kind.HouseEvent (event asked.House) entries from name })
    state in omega (arith, one)
instruction-layer levels entries from number below (DraftInstruction-F.Block all) h =
    let inner = inside-shallow levels true None (map instruction_contents all) h in
    let nested = greatest-below instruction_nesting levels
    (all_behind number (map (resolved_instruction entries from) all))
    (each-nested levels entries from number below all inner) in
    let more = nests-block (all_behind number (map (resolved_instruction entries from) all)) in
    omega (arith, nested, more)
instruction-layer levels entries from number below (DraftInstruction-F.Rule name) h =
    let one = nests-rule (record { 0 = referred_id kind.Rule rule entries from name }) in omega (arith, one)
instruction-layer levels entries from number below (DraftInstruction-F.If test first second) h =
    let inner = inside-shallow levels (length (map instruction_contents first) == 1 && nat_le
    (length (map instruction_contents second)) 1) None
    (test_contents test ∷ map instruction_contents first ++ map instruction_contents second) h in
    let head = and_parts (nat_le (test_contents test).nesting levels)
    (are_shallow levels (map instruction_contents first ++ map instruction_contents second)) inner in
    let rest = all-append (λ (one : Contents). nat_le one.nesting levels) (map instruction_contents first)
    (map instruction_contents second) head.1 in
    let one = all_behind number (map (resolved_instruction entries from) first) in
    let other = all_behind (number + total_size (map (resolved_instruction entries from) first))
    (map (resolved_instruction entries from) second) in
    let firsts = greatest-below instruction_nesting levels one
    (each-nested levels entries from number below first rest.0) in
    let seconds = greatest-below instruction_nesting levels other
    (each-nested levels entries from _ below second rest.1) in
    let both = greatest-joined levels (map instruction_nesting one) (map instruction_nesting other) firsts seconds in
    let tests = test-nested levels entries from test (and_from _ true head.0 refl) in
    let more = nests-if (resolved_test entries from test) one other in
    omega (arith, both, tests, more)

-- an instruction nested within some levels in a draft is nested within as many in the model
pub instruction-nested : (levels : ℕ) (entries : Entries) → NestedAt entries levels
instruction-nested zero entries from number i h = absurd (no-instruction i h)
instruction-nested (suc levels) entries from number i h =
    let own = subst (λ (c : Contents). are_shallow (suc levels) (c ∷ []) ≡ true)
    (fold_out-DraftInstruction Contents instruction_step i) h in
    subst (λ (c : Collecting Instruction). instruction_nesting (c.behind number) ≤ suc levels)
    (sym (fold_out-DraftInstruction (Collecting Instruction) (resolved_instruction_layer entries from) i))
    (instruction-layer levels entries from number (instruction-nested levels entries) (out-DraftInstruction i) own)

-- instructions nested within some levels in a draft are nested within as many in the model
pub instructions-nested : (levels : ℕ) (entries : Entries) (from : Entry) (number : ℕ) (all : List DraftInstruction)
    → are_shallow levels (map instruction_contents all) ≡ true
    → are_nested levels (all_behind number (map (resolved_instruction entries from) all)) ≡ true
instructions-nested levels entries from number all h =
    each-nested levels entries from number (instruction-nested levels entries) all h

-- ---- branches

abbrev BranchNestedAt : Entries → ℕ → Type 0
BranchNestedAt entries depth = (levels : ℕ) (from : Entry) (number : ℕ) (b : DraftBranch)
    → (branch_contents depth b).has_numbers ≡ true → are_shallow levels (branch_contents depth b ∷ []) ≡ true
    → is_nested levels (resolved_branch depth entries from number b) ≡ true

paths-nested : (levels depth : ℕ) (entries : Entries) (from : Entry) (number : ℕ) → BranchNestedAt entries depth
    → (paths : List DraftForkPath)
    → list_all (λ (one : Contents). one.has_numbers) (map (path_contents (λ b. branch_contents depth b)) paths) ≡ true
    → are_shallow levels (map (path_contents (λ b. branch_contents depth b)) paths) ≡ true
    → list_all (λ (path : ForkPath). is_nested levels path.branch)
    (all_behind number (map (resolved_path (λ behind below. resolved_branch depth entries from behind below)) paths))
    ≡ true
paths-nested levels depth entries from number at [] n h = refl
paths-nested levels depth entries from number at (path ∷ paths) n h =
    let numbers = and_parts (path_contents (λ b. branch_contents depth b) path).has_numbers _ n in
    let parts = and_parts (nat_le (path_contents (λ b. branch_contents depth b) path).nesting levels) _ h in
    and_from _ _
    (at levels from number path.branch (and_parts _ true numbers.0).0
    (path-shallow levels (λ b. branch_contents depth b) path parts.0))
    (paths-nested levels depth entries from (number
    + (resolved_path (λ behind below. resolved_branch depth entries from behind below) path).size)
    at paths numbers.1 parts.1)

end-nested : (levels depth : ℕ) (entries : Entries) (from : Entry) (number : ℕ) → BranchNestedAt entries depth
    → (x : DraftBranchEnd-F DraftBranchEnd DraftBranch DraftForkPath)
    → (end_contents (λ b. branch_contents depth b) x).has_numbers ≡ true
    → are_shallow (suc levels) (end_contents (λ b. branch_contents depth b) x ∷ []) ≡ true
    → end_is_nested (λ b. is_nested levels b)
    (out-BranchEnd (resolved_end entries from (λ behind below. resolved_branch depth entries from behind below)
    number x)) ≡ true
end-nested levels depth entries from number at (DraftBranchEnd-F.Fork name paths) n h =
    let inner = inside-shallow levels true (Some name) (map (path_contents (λ b. branch_contents depth b)) paths) h in
    let numbers = sym (together-numbers (map (path_contents (λ b. branch_contents depth b)) paths))
    ∙ (and_parts true _ n).1 in
    rw (out-fork (record { 0 = referred_id kind.FunctionalEvent functional_event entries from name })
    (all_behind number (map (resolved_path (λ behind below. resolved_branch depth entries from behind below))
    paths)))
    (paths-nested levels depth entries from number at paths numbers inner)
end-nested levels depth entries from number at (DraftBranchEnd-F.Sequence name) n h =
    rw (out-to (record { 0 = referred_id kind.Sequence sequence entries from name })) refl
end-nested levels depth entries from number at (DraftBranchEnd-F.Branch name) n h =
    rw (out-named (record { 0 = referred_id kind.Branch branch entries from name })) refl

end-some : (below : DraftBranch → Contents) (x : DraftBranchEnd-F DraftBranchEnd DraftBranch DraftForkPath)
    → 0 < (end_contents below x).nesting
end-some below (DraftBranchEnd-F.Fork name paths) = omega arith
end-some below (DraftBranchEnd-F.Sequence name) = omega arith
end-some below (DraftBranchEnd-F.Branch name) = omega arith

-- a branch nested within some levels in a draft is nested within as many in the model
pub branch-nested : (depth : ℕ) (entries : Entries) → BranchNestedAt entries depth
unfolding is_nested resolved_branch
branch-nested zero entries levels from number b n h = absurd (no-depth b n)
branch-nested (suc depth) entries zero from number b n h =
    absurd (no-nesting (end_contents (λ below. branch_contents depth below) (out-DraftBranchEnd b.end)) refl
    (end-some _ (out-DraftBranchEnd b.end)) (shallow-suc zero depth b h).1)
branch-nested (suc depth) entries (suc levels) from number b n h =
    let numbers = numbers-suc depth b n in
    let parts = shallow-suc (suc levels) depth b h in
    and_from _ _
    (instructions-nested (suc levels) entries from number b.instructions parts.0)
    (end-nested levels depth entries from _ (branch-nested depth entries) (out-DraftBranchEnd b.end)
    numbers.1 parts.1)
