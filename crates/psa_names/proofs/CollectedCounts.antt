-- A body collects no more formulas than the draft counts in it.
use Rattle.std.proofs.Common.{◌≡◌, ◌≤◌, ◌+◌, ◌==◌, ℕ, zero, suc, true, List, [], ◌∷◌, ◌++◌, None, map, length, ◌&&◌, refl, ap, subst, arith}
use Rattle.std.proofs.lemmas.Bool.{and_parts, and_from, leb-true}
use Rattle.std.proofs.lemmas.List.{length-append}
use Rattle.std.specs.Prelude.{nat_le}
use Rattle.std.specs.List.{flat_map}
use Rattle.psa_model.specs.declared.draft.DraftBody.{DraftBody}
use Rattle.psa_model.specs.declared.draft.DraftBody.TheVariants as body
use Rattle.psa_model.specs.declared.draft.DraftBranch.{DraftBranch}
use Rattle.psa_model.specs.declared.draft.DraftForkPath.{DraftForkPath}
use Rattle.psa_model.specs.declared.draft.DraftBranchEnd.{DraftBranchEnd, out-DraftBranchEnd}
use Rattle.psa_model.specs.declared.draft.DraftBranchEnd.TheOpen.{DraftBranchEnd-F}
use Rattle.psa_model.specs.declared.draft.DraftFormula.{DraftFormula}
use Rattle.psa_model.specs.declared.draft.DraftInstruction.{DraftInstruction, out-DraftInstruction}
use Rattle.psa_model.specs.declared.draft.DraftInstruction.TheOpen.{DraftInstruction-F}
use Rattle.psa_model.specs.declared.draft.DraftInstruction.TheFolds.{fold_out-DraftInstruction, map-DraftInstruction}
use Rattle.psa_model.specs.declared.limits.TheConstants.{MAX_NESTING}
use Rattle.psa_model.specs.Drafts.{Contents, together, body_contents, test_contents, instruction_contents, instruction_step, path_contents, end_contents, branch_contents, some_reference}
use Rattle.psa_names.specs.Collected.{collected_by, collected_layer, collected_in, end_collected, branch_collected}
use Rattle.psa_names.proofs.ListPlaces.{all-append}
use Rattle.psa_names.proofs.ElementNesting.{are_shallow, inside-shallow, together-shallow}
use Rattle.psa_names.proofs.Sums.{weigh, weigh-append}
use Rattle.psa_names.proofs.BranchLevels.{contents-suc, collected-suc, none-collected-empty, no-instruction, shallow-suc, path-shallow}

-- ---- collected formulas

-- the number of formulas that elements together collect
pub together-formulas : (all : List Contents) → (together all).formulas ≡ weigh (λ (c : Contents). c.formulas) all
together-formulas [] = refl
together-formulas (one ∷ others) = ap (λ n. one.formulas + n) (together-formulas others)

abbrev CountedAt : ℕ → Type 0
CountedAt levels = (i : DraftInstruction) → are_shallow levels (instruction_contents i ∷ []) ≡ true
    → length (collected_by i) ≤ (instruction_contents i).formulas

each-counted : (levels : ℕ) → CountedAt levels → (all : List DraftInstruction)
    → are_shallow levels (map instruction_contents all) ≡ true
    → length (flat_map (λ fs. fs) (map collected_by all)) ≤ weigh (λ (c : Contents). c.formulas)
    (map instruction_contents all)
each-counted levels at [] h = omega arith
each-counted levels at (i ∷ all) h =
    let parts = and_parts (nat_le (instruction_contents i).nesting levels) _ h in
    let here = at i (and_from _ true parts.0 refl) in
    let rest = each-counted levels at all parts.1 in
    let both = length-append (collected_by i) (flat_map (λ fs. fs) (map collected_by all)) in
    omega (arith, here, rest, both)

counted-layer : (levels : ℕ) → CountedAt levels → (x : DraftInstruction-F DraftInstruction)
    → are_shallow (suc levels) (instruction_step
    (map-DraftInstruction DraftInstruction Contents instruction_contents x) ∷ []) ≡ true
    → length (collected_layer (map-DraftInstruction DraftInstruction (List DraftFormula) collected_by x))
    ≤ (instruction_step (map-DraftInstruction DraftInstruction Contents instruction_contents x)).formulas
counted-layer levels below (DraftInstruction-F.Collect f) h = omega arith
counted-layer levels below (DraftInstruction-F.SetHouse name state) h = omega arith
counted-layer levels below (DraftInstruction-F.Block all) h =
    let less = each-counted levels below all (inside-shallow levels true None (map instruction_contents all) h) in
    let same = together-formulas (map instruction_contents all) in
    omega (arith, less, same)
counted-layer levels below (DraftInstruction-F.Rule name) h = omega arith
counted-layer levels below (DraftInstruction-F.If test first second) h =
    let firsts = map instruction_contents first in
    let seconds = map instruction_contents second in
    let inner = inside-shallow levels (length firsts == 1 && nat_le (length seconds) 1) None
    (test_contents test ∷ firsts ++ seconds) h in
    let head = and_parts (nat_le (test_contents test).nesting levels) (are_shallow levels (firsts ++ seconds))
    inner in
    let rest = all-append (λ (one : Contents). nat_le one.nesting levels) firsts seconds head.1 in
    let a = each-counted levels below first rest.0 in
    let b = each-counted levels below second rest.1 in
    let both = length-append (flat_map (λ fs. fs) (map collected_by first))
    (flat_map (λ fs. fs) (map collected_by second)) in
    let same = together-formulas (firsts ++ seconds) in
    let sums = weigh-append (λ (c : Contents). c.formulas) firsts seconds in
    omega (arith, a, b, both, same, sums)

instruction-counted : (levels : ℕ) → CountedAt levels
instruction-counted zero i h = absurd (no-instruction i h)
instruction-counted (suc levels) i h =
    let own = subst (λ (c : Contents). are_shallow (suc levels) (c ∷ []) ≡ true)
    (fold_out-DraftInstruction Contents instruction_step i) h in
    let less = counted-layer levels (instruction-counted levels) (out-DraftInstruction i) own in
    let contents = ap (λ (c : Contents). c.formulas) (fold_out-DraftInstruction Contents instruction_step i) in
    let collected = ap (λ (fs : List DraftFormula). length fs)
    (fold_out-DraftInstruction (List DraftFormula) collected_layer i) in
    omega (arith, less, contents, collected)

steps-counted : (levels : ℕ) (all : List DraftInstruction) → are_shallow levels (map instruction_contents all) ≡ true
    → length (flat_map collected_by all) ≤ weigh (λ (c : Contents). c.formulas) (map instruction_contents all)
steps-counted levels [] h = omega arith
steps-counted levels (i ∷ all) h =
    let parts = and_parts (nat_le (instruction_contents i).nesting levels) _ h in
    let here = instruction-counted levels i (and_from _ true parts.0 refl) in
    let rest = steps-counted levels all parts.1 in
    let both = length-append (collected_by i) (flat_map collected_by all) in
    omega (arith, here, rest, both)

abbrev BranchCountedAt : ℕ → Type 0
BranchCountedAt depth = (levels : ℕ) (b : DraftBranch) → are_shallow levels (branch_contents depth b ∷ []) ≡ true
    → length (branch_collected depth b) ≤ (branch_contents depth b).formulas

paths-counted : (levels depth : ℕ) → BranchCountedAt depth → (paths : List DraftForkPath)
    → are_shallow levels (map (path_contents (λ b. branch_contents depth b)) paths) ≡ true
    → length (flat_map (λ path. branch_collected depth path.branch) paths) ≤ weigh (λ (c : Contents). c.formulas)
    (map (path_contents (λ b. branch_contents depth b)) paths)
paths-counted levels depth at [] h = omega arith
paths-counted levels depth at (path ∷ paths) h =
    let parts = and_parts (nat_le (path_contents (λ b. branch_contents depth b) path).nesting levels) _ h in
    let here = at levels path.branch (path-shallow levels (λ b. branch_contents depth b) path parts.0) in
    let rest = paths-counted levels depth at paths parts.1 in
    let both = length-append (branch_collected depth path.branch)
    (flat_map (λ p. branch_collected depth p.branch) paths) in
    omega (arith, here, rest, both)

end-counted : (levels depth : ℕ) → BranchCountedAt depth
    → (x : DraftBranchEnd-F DraftBranchEnd DraftBranch DraftForkPath)
    → are_shallow levels (end_contents (λ b. branch_contents depth b) x ∷ []) ≡ true
    → length (end_collected (λ b. branch_collected depth b) x)
    ≤ (end_contents (λ b. branch_contents depth b) x).formulas
end-counted levels depth at (DraftBranchEnd-F.Fork name paths) h =
    let nested = leb-true (end_contents (λ b. branch_contents depth b) (DraftBranchEnd-F.Fork name paths)).nesting
    levels (and_parts _ true h).0 in
    let less = paths-counted levels depth at paths
    (together-shallow levels (map (path_contents (λ b. branch_contents depth b)) paths)
    (omega (arith, nested))) in
    let same = together-formulas (map (path_contents (λ b. branch_contents depth b)) paths) in
    omega (arith, less, same)
end-counted levels depth at (DraftBranchEnd-F.Sequence name) h = omega arith
end-counted levels depth at (DraftBranchEnd-F.Branch name) h = omega arith

branch-counted : (depth : ℕ) → BranchCountedAt depth
branch-counted zero levels b h = let none =
    ap (λ (fs : List DraftFormula). length fs) (none-collected-empty b) in omega (arith, none)
branch-counted (suc depth) levels b h =
    let parts = shallow-suc levels depth b h in
    let steps = steps-counted levels b.instructions parts.0 in
    let last = end-counted levels depth (branch-counted depth) (out-DraftBranchEnd b.end) parts.1 in
    let both = length-append (flat_map collected_by b.instructions)
    (end_collected (λ below. branch_collected depth below) (out-DraftBranchEnd b.end)) in
    let collected = ap (λ (fs : List DraftFormula). length fs) (collected-suc depth b) in
    let contents = ap (λ (c : Contents). c.formulas) (contents-suc depth b) in
    let same = together-formulas (map instruction_contents b.instructions ++ end_contents
    (λ below. branch_contents depth below) (out-DraftBranchEnd b.end) ∷ []) in
    let sums = weigh-append (λ (c : Contents). c.formulas) (map instruction_contents b.instructions)
    (end_contents (λ below. branch_contents depth below) (out-DraftBranchEnd b.end) ∷ []) in
    omega (arith, steps, last, both, collected, contents, same, sums)

-- a body collects no more formulas than the draft counts in it
pub body-counted : (levels : ℕ) (its : DraftBody) → are_shallow levels (body_contents its ∷ []) ≡ true
    → length (collected_in its) ≤ (body_contents its).formulas
body-counted levels (body.Steps all link) h =
    let nested = leb-true (body_contents (body.Steps all link)).nesting levels (and_parts _ true h).0 in
    let shallow = all-append (λ (c : Contents). nat_le c.nesting levels) (map instruction_contents all)
    (some_reference link ∷ []) (together-shallow levels (map instruction_contents all ++ some_reference link ∷ [])
    nested) in
    let steps = steps-counted levels all shallow.0 in
    let same = together-formulas (map instruction_contents all ++ some_reference link ∷ []) in
    let sums = weigh-append (λ (c : Contents). c.formulas) (map instruction_contents all)
    (some_reference link ∷ []) in
    omega (arith, steps, same, sums)
body-counted levels (body.Walk b) h = branch-counted MAX_NESTING levels b h
body-counted levels body.Nothing h = omega arith
body-counted levels (body.Formula f) h = omega arith
body-counted levels (body.Value v) h = omega arith
body-counted levels (body.State s) h = omega arith
body-counted levels (body.Group g) h = omega arith
body-counted levels (body.Start t) h = omega arith
