-- How many formulas instructions, branches and bodies collect, by their forms.
use Rattle.std.proofs.Common.{◌≡◌, ◌<◌, ◌≤◌, ◌+◌, ◌-◌, ℕ, zero, suc, List, length, get_or, map, sym, ap, ◌∙◌, arith}
use Rattle.std.specs.List.{flat_map}
use Rattle.std.proofs.lemmas.List.{length-append}
use Rattle.std.proofs.lemmas.List.Folds.{length-flat_map-take}
use Rattle.psa_model.specs.declared.draft.DraftFormula.{DraftFormula}
use Rattle.psa_model.specs.declared.draft.DraftTest.{DraftTest}
use Rattle.psa_model.specs.declared.draft.DraftReference.{DraftReference}
use Rattle.psa_model.specs.declared.draft.DraftInstruction.{DraftInstruction}
use Rattle.psa_model.specs.declared.draft.DraftInstruction.TheVariants as instruction
use Rattle.psa_model.specs.declared.draft.DraftBranch.{DraftBranch}
use Rattle.psa_model.specs.declared.draft.DraftForkPath.{DraftForkPath}
use Rattle.psa_model.specs.declared.draft.DraftBranchEnd.{DraftBranchEnd, out-DraftBranchEnd}
use Rattle.psa_model.specs.declared.draft.DraftBranchEnd.TheVariants as end
use Rattle.psa_names.specs.Collected.{collected_layer, collected_by, end_collected, branch_collected}
use Rattle.psa_names.proofs.Forms.{at-if, out-fork, out-sequence}
use Rattle.psa_names.proofs.BranchLevels.{collected-suc, none-collected-empty}
use Rattle.psa_bodies.proofs.DraftForms.{at-block, out-branch}
use Rattle.psa_bodies.proofs.ReadingInOrder.{flat_map-map}

-- ---- instructions

inside-number : (inside : List DraftInstruction) → length (flat_map (λ all. all) (map collected_by inside)) ≡ length (flat_map collected_by inside)
inside-number inside = ap length (flat_map-map (λ (all : List DraftFormula). all) collected_by inside)

-- a block collects what the instructions in it collect
pub block-number : (one : DraftInstruction) (inside : List DraftInstruction) → one ≡ instruction.Block inside → length (collected_by one) ≡ length (flat_map collected_by inside)
block-number one inside is =
    ap (λ i. length (collected_by i)) is ∙ ap length (at-block collected_layer inside) ∙ inside-number inside

-- a conditional collects what both sides collect
pub if-number : (one : DraftInstruction) (test : DraftTest) (first second : List DraftInstruction) → one ≡ instruction.If test first second → length (collected_by one) ≡ length (flat_map collected_by first) + length (flat_map collected_by second)
if-number one test first second is =
    let both = length-append (flat_map (λ all. all) (map collected_by first)) (flat_map (λ all. all) (map collected_by second)) in
    let own = ap (λ i. length (collected_by i)) is ∙ ap length (at-if collected_layer test first second) in
    let a = inside-number first in
    let b = inside-number second in
    omega (arith, both, own, a, b)

-- an element of a list collects no more than the list
pub part-number : {X : Type 0} (f : X → List DraftFormula) (xs : List X) (i : ℕ) (x : X) → i < length xs → x ≡ get_or xs i x → length (f x) ≤ length (flat_map f xs)
part-number f xs i x within is =
    let less = length-flat_map-take f xs i x within in
    let same = ap (λ y. length (f y)) is in
    omega (arith, less, same)

-- ---- branches

-- no level collects nothing
pub no-number : (depth : ℕ) (b : DraftBranch) → depth ≡ 0 → 0 ≡ length (branch_collected depth b)
no-number depth b none = ap length (sym (none-collected-empty b)) ∙ ap (λ n. length (branch_collected n b)) (sym none)

branch-suc : (depth : ℕ) (b : DraftBranch) → length (branch_collected (suc depth) b) ≡ length (flat_map collected_by b.instructions) + length (end_collected (λ below. branch_collected depth below) (out-DraftBranchEnd b.end))
branch-suc depth b =
    ap length (collected-suc depth b) ∙ length-append (flat_map collected_by b.instructions) (end_collected (λ below. branch_collected depth below) (out-DraftBranchEnd b.end))

-- a branch collects what its instructions and its end collect
pub branch-number : (depth : ℕ) (b : DraftBranch) → 0 < depth → length (branch_collected depth b) ≡ length (flat_map collected_by b.instructions) + length (end_collected (λ below. branch_collected (depth - 1) below) (out-DraftBranchEnd b.end))
branch-number zero b some = absurd (omega (arith, some))
branch-number (suc depth) b some =
    let same : depth ≡ suc depth - 1 = omega arith in
    branch-suc depth b
    ∙ ap (λ n. length (flat_map collected_by b.instructions) + length (end_collected (λ below. branch_collected n below) (out-DraftBranchEnd b.end))) same

-- a fork collects what its paths collect
pub fork-number : (depth : ℕ) (one : DraftBranchEnd) (name : DraftReference) (paths : List DraftForkPath) → one ≡ end.Fork name paths → length (end_collected (λ below. branch_collected depth below) (out-DraftBranchEnd one)) ≡ length (flat_map (λ path. branch_collected depth path.branch) paths)
fork-number depth one name paths is =
    ap (λ (x : DraftBranchEnd). length (end_collected (λ below. branch_collected depth below) (out-DraftBranchEnd x))) is
    ∙ ap (λ x. length (end_collected (λ below. branch_collected depth below) x)) (out-fork name paths)

-- an end at a sequence collects nothing
pub sequence-number : (depth : ℕ) (one : DraftBranchEnd) (name : DraftReference) → one ≡ end.Sequence name → 0 ≡ length (end_collected (λ below. branch_collected depth below) (out-DraftBranchEnd one))
sequence-number depth one name is =
    sym (ap (λ (x : DraftBranchEnd). length (end_collected (λ below. branch_collected depth below) (out-DraftBranchEnd x))) is
    ∙ ap (λ x. length (end_collected (λ below. branch_collected depth below) x)) (out-sequence name))

-- an end at a named branch collects nothing
pub named-number : (depth : ℕ) (one : DraftBranchEnd) (name : DraftReference) → one ≡ end.Branch name → 0 ≡ length (end_collected (λ below. branch_collected depth below) (out-DraftBranchEnd one))
named-number depth one name is =
    sym (ap (λ (x : DraftBranchEnd). length (end_collected (λ below. branch_collected depth below) (out-DraftBranchEnd x))) is
    ∙ ap (λ x. length (end_collected (λ below. branch_collected depth below) x)) (out-branch name))
