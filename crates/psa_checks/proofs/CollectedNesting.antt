-- Each formula that instructions and branches collect is nested within their levels.
use Rattle.std.proofs.Common.{◌≡◌, ◌==◌, ℕ, zero, suc, Bool, true, List, [], ◌∷◌, ◌++◌, None, map, length, ◌&&◌, refl, sym, subst, arith}
use Rattle.std.proofs.lemmas.Bool.{and_parts, and_from, leb-true, le-leb}
use Rattle.std.specs.Prelude.{nat_le}
use Rattle.std.specs.List.{list_all, flat_map}
use Rattle.psa_model.specs.declared.draft.DraftFormula.{DraftFormula}
use Rattle.psa_model.specs.declared.draft.DraftInstruction.{DraftInstruction, out-DraftInstruction}
use Rattle.psa_model.specs.declared.draft.DraftInstruction.TheOpen.{DraftInstruction-F}
use Rattle.psa_model.specs.declared.draft.DraftInstruction.TheFolds.{fold_out-DraftInstruction, map-DraftInstruction}
use Rattle.psa_model.specs.declared.draft.DraftBranch.{DraftBranch}
use Rattle.psa_model.specs.declared.draft.DraftForkPath.{DraftForkPath}
use Rattle.psa_model.specs.declared.draft.DraftBranchEnd.{DraftBranchEnd, out-DraftBranchEnd}
use Rattle.psa_model.specs.declared.draft.DraftBranchEnd.TheOpen.{DraftBranchEnd-F}
use Rattle.psa_model.specs.Drafts.{Contents, formula_contents, test_contents, instruction_contents, instruction_step, path_contents, end_contents, branch_contents}
use Rattle.psa_model.specs.Models.{formula_nesting}
use Rattle.psa_names.specs.Outlines.{Entry, Entries}
use Rattle.psa_names.specs.Resolved.{resolved_formula}
use Rattle.psa_names.specs.Collected.{collected_by, collected_layer, end_collected, branch_collected}
use Rattle.psa_names.proofs.ListPlaces.{all-append, all-joined, all-more}
use Rattle.psa_names.proofs.ElementNesting.{are_shallow, inside-shallow, together-shallow}
use Rattle.psa_checks.proofs.BodyNesting.{formula-nested}
use Rattle.psa_names.proofs.BranchLevels.{collected-suc, no-instruction, shallow-suc, path-shallow}

-- ---- collected formulas

abbrev nests_within : ℕ → Entries → Entry → DraftFormula → Bool
nests_within levels entries from f = nat_le (formula_nesting (resolved_formula entries from f)) levels

nests-more : (levels : ℕ) (entries : Entries) (from : Entry) (fs : List DraftFormula)
    → list_all (nests_within levels entries from) fs ≡ true
    → list_all (nests_within (suc levels) entries from) fs ≡ true
nests-more levels entries from fs h =
    all-more (nests_within levels entries from) (nests_within (suc levels) entries from) fs
    (λ f k. let nested = leb-true (formula_nesting (resolved_formula entries from f)) levels k in le-leb
    (formula_nesting (resolved_formula entries from f)) (suc levels) (omega (arith, nested))) h

abbrev CollectedAt : Entries → ℕ → Type 0
CollectedAt entries levels = (from : Entry) (i : DraftInstruction) → are_shallow levels (instruction_contents i ∷ [])
    ≡ true → list_all (nests_within levels entries from) (collected_by i) ≡ true

each-collected : (levels : ℕ) (entries : Entries) (from : Entry) → CollectedAt entries levels
    → (all : List DraftInstruction) → are_shallow levels (map instruction_contents all) ≡ true
    → list_all (nests_within levels entries from) (flat_map (λ fs. fs) (map collected_by all)) ≡ true
each-collected levels entries from at [] h = refl
each-collected levels entries from at (i ∷ all) h =
    let parts = and_parts (nat_le (instruction_contents i).nesting levels) _ h in
    all-joined (nests_within levels entries from) (collected_by i) _ (at from i (and_from _ true parts.0 refl))
    (each-collected levels entries from at all parts.1)

collected-layer : (levels : ℕ) (entries : Entries) (from : Entry) → CollectedAt entries levels
    → (x : DraftInstruction-F DraftInstruction)
    → are_shallow (suc levels) (instruction_step
    (map-DraftInstruction DraftInstruction Contents instruction_contents x) ∷ []) ≡ true
    → list_all (nests_within (suc levels) entries from)
    (collected_layer (map-DraftInstruction DraftInstruction (List DraftFormula) collected_by x)) ≡ true
collected-layer levels entries from below (DraftInstruction-F.Collect f) h =
    let inner = inside-shallow levels true None (formula_contents f ∷ []) h in
    let nested = formula-nested levels entries from f inner in
    and_from _ true (le-leb (formula_nesting (resolved_formula entries from f)) (suc levels) (omega (arith, nested)))
    refl
collected-layer levels entries from below (DraftInstruction-F.SetHouse name state) h = refl
collected-layer levels entries from below (DraftInstruction-F.Block all) h =
    let inner = inside-shallow levels true None (map instruction_contents all) h in
    nests-more levels entries from _ (each-collected levels entries from below all inner)
collected-layer levels entries from below (DraftInstruction-F.Rule name) h = refl
collected-layer levels entries from below (DraftInstruction-F.If test first second) h =
    let inner = inside-shallow levels (length (map instruction_contents first) == 1 && nat_le
    (length (map instruction_contents second)) 1) None
    (test_contents test ∷ map instruction_contents first ++ map instruction_contents second) h in
    let head = and_parts (nat_le (test_contents test).nesting levels)
    (are_shallow levels (map instruction_contents first ++ map instruction_contents second)) inner in
    let rest = all-append (λ (one : Contents). nat_le one.nesting levels) (map instruction_contents first)
    (map instruction_contents second) head.1 in
    nests-more levels entries from _ (all-joined (nests_within levels entries from) _ _
    (each-collected levels entries from below first rest.0)
    (each-collected levels entries from below second rest.1))

collected-nested : (levels : ℕ) (entries : Entries) → CollectedAt entries levels
collected-nested zero entries from i h = absurd (no-instruction i h)
collected-nested (suc levels) entries from i h =
    let own = subst (λ (c : Contents). are_shallow (suc levels) (c ∷ []) ≡ true)
    (fold_out-DraftInstruction Contents instruction_step i) h in
    subst (λ (fs : List DraftFormula). list_all (nests_within (suc levels) entries from) fs ≡ true)
    (sym (fold_out-DraftInstruction (List DraftFormula) collected_layer i))
    (collected-layer levels entries from (collected-nested levels entries) (out-DraftInstruction i) own)

-- the formulas that instructions collect are nested within their levels
pub steps-collected : (levels : ℕ) (entries : Entries) (from : Entry) (all : List DraftInstruction)
    → are_shallow levels (map instruction_contents all) ≡ true
    → list_all (nests_within levels entries from) (flat_map collected_by all) ≡ true
steps-collected levels entries from [] h = refl
steps-collected levels entries from (i ∷ all) h =
    let parts = and_parts (nat_le (instruction_contents i).nesting levels) _ h in
    all-joined (nests_within levels entries from) (collected_by i) _
    (collected-nested levels entries from i (and_from _ true parts.0 refl))
    (steps-collected levels entries from all parts.1)

paths-collected : (levels depth : ℕ) (entries : Entries) (from : Entry)
    → ((b : DraftBranch) → are_shallow levels (branch_contents depth b ∷ []) ≡ true
    → list_all (nests_within levels entries from) (branch_collected depth b) ≡ true) → (paths : List DraftForkPath)
    → are_shallow levels (map (path_contents (λ b. branch_contents depth b)) paths) ≡ true
    → list_all (nests_within levels entries from) (flat_map (λ path. branch_collected depth path.branch) paths) ≡ true
paths-collected levels depth entries from at [] h = refl
paths-collected levels depth entries from at (path ∷ paths) h =
    let parts = and_parts (nat_le (path_contents (λ b. branch_contents depth b) path).nesting levels) _ h in
    all-joined (nests_within levels entries from) (branch_collected depth path.branch) _
    (at path.branch (path-shallow levels (λ b. branch_contents depth b) path parts.0))
    (paths-collected levels depth entries from at paths parts.1)

end-collected-nested : (levels depth : ℕ) (entries : Entries) (from : Entry)
    → ((b : DraftBranch) → are_shallow levels (branch_contents depth b ∷ []) ≡ true
    → list_all (nests_within levels entries from) (branch_collected depth b) ≡ true)
    → (x : DraftBranchEnd-F DraftBranchEnd DraftBranch DraftForkPath)
    → are_shallow levels (end_contents (λ b. branch_contents depth b) x ∷ []) ≡ true
    → list_all (nests_within levels entries from) (end_collected (λ b. branch_collected depth b) x) ≡ true
end-collected-nested levels depth entries from at (DraftBranchEnd-F.Fork name paths) h =
    let nested = leb-true (end_contents (λ b. branch_contents depth b) (DraftBranchEnd-F.Fork name paths)).nesting
    levels (and_parts _ true h).0 in
    paths-collected levels depth entries from at paths
    (together-shallow levels (map (path_contents (λ b. branch_contents depth b)) paths) (omega (arith, nested)))
end-collected-nested levels depth entries from at (DraftBranchEnd-F.Sequence name) h = refl
end-collected-nested levels depth entries from at (DraftBranchEnd-F.Branch name) h = refl

-- where there is no branch, all that it collects passes
pub none-collected : (test : DraftFormula → Bool) (b : DraftBranch) → list_all test (branch_collected zero b) ≡ true
unfolding branch_collected
none-collected test b = refl

-- the formulas that a branch collects are nested within its levels
pub branch-collected-nested : (depth levels : ℕ) (entries : Entries) (from : Entry) (b : DraftBranch)
    → are_shallow levels (branch_contents depth b ∷ []) ≡ true
    → list_all (nests_within levels entries from) (branch_collected depth b) ≡ true
branch-collected-nested zero levels entries from b h = none-collected (nests_within levels entries from) b
branch-collected-nested (suc depth) levels entries from b h =
    let parts = shallow-suc levels depth b h in
    subst (λ (fs : List DraftFormula). list_all (nests_within levels entries from) fs ≡ true)
    (sym (collected-suc depth b))
    (all-joined (nests_within levels entries from) (flat_map collected_by b.instructions) _
    (steps-collected levels entries from b.instructions parts.0)
    (end-collected-nested levels depth entries from (branch-collected-nested depth levels entries from)
    (out-DraftBranchEnd b.end) parts.1))
