-- Branches a level down, and what more levels of branches collect.
use Rattle.std.proofs.Common.{◌≡◌, ◌≤◌, ◌+◌, ◌-◌, ℕ, zero, suc, true, List, [], ◌∷◌, ◌++◌, map, refl, sym, ap, ap₂, ◌∙◌, suc-add, arith}
use Rattle.std.proofs.lemmas.Bool.{false≢true, and_parts}
use Rattle.std.specs.List.{list_all, flat_map}
use Rattle.psa_model.specs.declared.limits.TheConstants.{MAX_NESTING}
use Rattle.psa_model.specs.declared.draft.DraftFormula.{DraftFormula}
use Rattle.psa_model.specs.declared.draft.DraftBranch.{DraftBranch}
use Rattle.psa_model.specs.declared.draft.DraftForkPath.{DraftForkPath}
use Rattle.psa_model.specs.declared.draft.DraftBranchEnd.{DraftBranchEnd, out-DraftBranchEnd}
use Rattle.psa_model.specs.declared.draft.DraftBranchEnd.TheOpen.{DraftBranchEnd-F}
use Rattle.psa_model.specs.Drafts.{Contents, instruction_contents, path_contents, end_contents, branch_contents}
use Rattle.psa_names.specs.Collected.{collected_by, end_collected, branch_collected}
use Rattle.psa_names.proofs.ListPlaces.{all-append}
use Rattle.psa_names.proofs.BranchLevels.{contents-suc, collected-suc}
use Rattle.psa_checks.proofs.SoundElements.{together-numbers}

-- ---- a level down

-- where there is no level, nothing is right
pub no-depth : (b : DraftBranch) → (branch_contents zero b).has_numbers ≡ true → ⊥
unfolding branch_contents
no-depth b h = false≢true h

-- what stands in a branch that has its numbers of arguments
pub numbers-suc : (depth : ℕ) (b : DraftBranch) → (branch_contents (suc depth) b).has_numbers ≡ true
    → (list_all (λ (one : Contents). one.has_numbers) (map instruction_contents b.instructions) ≡ true)
    × ((end_contents (λ below. branch_contents depth below) (out-DraftBranchEnd b.end)).has_numbers ≡ true)
numbers-suc depth b h =
    let all = map instruction_contents b.instructions in
    let last = end_contents (λ below. branch_contents depth below) (out-DraftBranchEnd b.end) in
    let both = sym (together-numbers (all ++ last ∷ []))
    ∙ sym (ap (λ (c : Contents). c.has_numbers) (contents-suc depth b)) ∙ h in
    let parts = all-append (λ (one : Contents). one.has_numbers) all (last ∷ []) both in
    (parts.0, (and_parts last.has_numbers true parts.1).0)

-- ---- more levels of branches collect no more

-- the branch of a path has its numbers of arguments
pub path-numbers : (below : DraftBranch → Contents) (path : DraftForkPath) → (path_contents below path).has_numbers ≡ true
    → (below path.branch).has_numbers ≡ true
path-numbers below path h = (and_parts _ true h).0

same-paths : (f g : DraftBranch → List DraftFormula) (below : DraftBranch → Contents)
    → ((b : DraftBranch) → (below b).has_numbers ≡ true → f b ≡ g b) → (paths : List DraftForkPath)
    → list_all (λ (one : Contents). one.has_numbers) (map (path_contents below) paths) ≡ true
    → flat_map (λ path. f path.branch) paths ≡ flat_map (λ path. g path.branch) paths
same-paths f g below same [] h = refl
same-paths f g below same (path ∷ paths) h =
    let parts = and_parts (path_contents below path).has_numbers _ h in
    ap₂ (λ (one rest : List DraftFormula). one ++ rest) (same path.branch (path-numbers below path parts.0))
    (same-paths f g below same paths parts.1)

same-end : (f g : DraftBranch → List DraftFormula) (below : DraftBranch → Contents)
    → ((b : DraftBranch) → (below b).has_numbers ≡ true → f b ≡ g b)
    → (x : DraftBranchEnd-F DraftBranchEnd DraftBranch DraftForkPath) → (end_contents below x).has_numbers ≡ true
    → end_collected f x ≡ end_collected g x
same-end f g below same (DraftBranchEnd-F.Fork name paths) h =
    same-paths f g below same paths (sym (together-numbers (map (path_contents below) paths))
    ∙ (and_parts true _ h).1)
same-end f g below same (DraftBranchEnd-F.Sequence name) h = refl
same-end f g below same (DraftBranchEnd-F.Branch name) h = refl

-- more levels than a branch has collect no more
pub collected-any : (depth more : ℕ) (b : DraftBranch) → (branch_contents depth b).has_numbers ≡ true
    → branch_collected (depth + more) b ≡ branch_collected depth b
collected-any zero more b h = absurd (no-depth b h)
collected-any (suc depth) more b h =
    ap (λ (n : ℕ). branch_collected n b) (suc-add depth more)
    ∙ collected-suc (depth + more) b
    ∙ ap (λ (fs : List DraftFormula). flat_map collected_by b.instructions ++ fs)
    (same-end _ _ (λ below. branch_contents depth below) (collected-any depth more) (out-DraftBranchEnd b.end)
    (numbers-suc depth b h).1)
    ∙ sym (collected-suc depth b)

-- all that a branch collects
pub collected-whole : (depth : ℕ) (b : DraftBranch) → depth ≤ MAX_NESTING
    → (branch_contents depth b).has_numbers ≡ true → branch_collected MAX_NESTING b ≡ branch_collected depth b
collected-whole depth b few h =
    let same : MAX_NESTING ≡ depth + (MAX_NESTING - depth) = omega arith in
    ap (λ (n : ℕ). branch_collected n b) same ∙ collected-any depth (MAX_NESTING - depth) b h
