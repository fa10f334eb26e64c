-- Instructions and branches a level down.
use Rattle.std.proofs.Common.{◌≡◌, ◌<◌, ℕ, zero, suc, true, [], ◌∷◌, ◌++◌, map, refl, ap, arith}
use Rattle.std.proofs.lemmas.Bool.{and_parts, and_from, leb-true, le-leb}
use Rattle.std.specs.Prelude.{nat_le}
use Rattle.std.specs.List.{flat_map}
use Rattle.psa_model.specs.declared.draft.DraftInstruction.{DraftInstruction, out-DraftInstruction}
use Rattle.psa_model.specs.declared.draft.DraftInstruction.TheOpen.{DraftInstruction-F}
use Rattle.psa_model.specs.declared.draft.DraftInstruction.TheFolds.{fold_out-DraftInstruction, map-DraftInstruction}
use Rattle.psa_model.specs.declared.draft.DraftBranch.{DraftBranch}
use Rattle.psa_model.specs.declared.draft.DraftForkPath.{DraftForkPath}
use Rattle.psa_model.specs.declared.draft.DraftBranchEnd.{out-DraftBranchEnd}
use Rattle.psa_model.specs.Drafts.{Contents, together, instruction_contents, instruction_step, path_contents, end_contents, branch_contents}
use Rattle.psa_names.specs.Outlines.{instruction_outline, end_outline, branch_outlines}
use Rattle.psa_names.specs.Collected.{collected_by, end_collected, branch_collected}
use Rattle.psa_names.proofs.ListPlaces.{all-append}
use Rattle.psa_names.proofs.ElementNesting.{are_shallow, no-nesting, together-shallow}

-- ---- forms

-- the outlines of a branch, a level down
pub outlines-suc : (depth : ℕ) (b : DraftBranch)
    → branch_outlines (suc depth) b ≡ map instruction_outline b.instructions ++ end_outline
    (λ below. branch_outlines depth below) (out-DraftBranchEnd b.end) ∷ []
unfolding branch_outlines
outlines-suc depth b = refl

-- the contents of a branch, a level down
pub contents-suc : (depth : ℕ) (b : DraftBranch)
    → branch_contents (suc depth) b ≡ together
    (map instruction_contents b.instructions ++ end_contents (λ below. branch_contents depth below)
    (out-DraftBranchEnd b.end) ∷ [])
unfolding branch_contents
contents-suc depth b = refl

-- what a branch collects, a level down
pub collected-suc : (depth : ℕ) (b : DraftBranch)
    → branch_collected (suc depth) b ≡ flat_map collected_by b.instructions ++ end_collected
    (λ below. branch_collected depth below) (out-DraftBranchEnd b.end)
unfolding branch_collected
collected-suc depth b = refl

-- where there is no branch, nothing is collected
pub none-collected-empty : (b : DraftBranch) → branch_collected zero b ≡ []
unfolding branch_collected
none-collected-empty b = refl

-- ---- nesting

some-instruction : (x : DraftInstruction-F DraftInstruction)
    → 0 < (instruction_step (map-DraftInstruction DraftInstruction Contents instruction_contents x)).nesting
some-instruction (DraftInstruction-F.Collect f) = omega arith
some-instruction (DraftInstruction-F.SetHouse name state) = omega arith
some-instruction (DraftInstruction-F.Block all) = omega arith
some-instruction (DraftInstruction-F.Rule name) = omega arith
some-instruction (DraftInstruction-F.If test first second) = omega arith

-- no instruction is nested within no levels
pub no-instruction : (i : DraftInstruction) → are_shallow 0 (instruction_contents i ∷ []) ≡ true → ⊥
no-instruction i h = no-nesting (instruction_contents i)
    (ap (λ (c : Contents). c.nesting) (fold_out-DraftInstruction Contents instruction_step i))
    (some-instruction (out-DraftInstruction i)) h

-- what stands in a branch is nested within the levels of the branch
pub shallow-suc : (levels depth : ℕ) (b : DraftBranch)
    → are_shallow levels (branch_contents (suc depth) b ∷ []) ≡ true
    → (are_shallow levels (map instruction_contents b.instructions) ≡ true)
    × (are_shallow levels (end_contents (λ below. branch_contents depth below) (out-DraftBranchEnd b.end) ∷ [])
    ≡ true)
shallow-suc levels depth b h =
    let nested = leb-true (branch_contents (suc depth) b).nesting levels (and_parts _ true h).0 in
    let same = ap (λ (c : Contents). c.nesting) (contents-suc depth b) in
    all-append (λ (one : Contents). nat_le one.nesting levels) (map instruction_contents b.instructions)
    (end_contents (λ below. branch_contents depth below) (out-DraftBranchEnd b.end) ∷ [])
    (together-shallow levels _ (omega (arith, nested, same)))

-- the branch of a path is nested within the levels of the path
pub path-shallow : (levels : ℕ) (below : DraftBranch → Contents) (path : DraftForkPath)
    → nat_le (path_contents below path).nesting levels ≡ true → are_shallow levels (below path.branch ∷ []) ≡ true
path-shallow levels below path h =
    let nested = leb-true (path_contents below path).nesting levels h in
    and_from _ true (le-leb (below path.branch).nesting levels (omega (arith, nested))) refl
