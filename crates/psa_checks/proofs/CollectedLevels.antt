-- Each formula that a definition within so many levels collects is within as many in the model.
use Rattle.std.proofs.Common.{◌≡◌, ℕ, zero, suc, Bool, true, List, [], ◌∷◌, Some, None, map, refl, sym, subst}
use Rattle.std.proofs.lemmas.Bool.{and_parts, and_from}
use Rattle.std.specs.List.{list_all, flat_map}
use Rattle.psa_model.specs.declared.draft.DraftFormula.{DraftFormula}
use Rattle.psa_model.specs.declared.draft.DraftInstruction.{DraftInstruction, out-DraftInstruction}
use Rattle.psa_model.specs.declared.draft.DraftInstruction.TheOpen.{DraftInstruction-F}
use Rattle.psa_model.specs.declared.draft.DraftInstruction.TheFolds.{map-DraftInstruction}
use Rattle.psa_model.specs.declared.draft.DraftBranch.{DraftBranch}
use Rattle.psa_model.specs.declared.draft.DraftForkPath.{DraftForkPath}
use Rattle.psa_model.specs.declared.draft.DraftBranchEnd.{DraftBranchEnd, out-DraftBranchEnd}
use Rattle.psa_model.specs.declared.draft.DraftBranchEnd.TheOpen.{DraftBranchEnd-F}
use Rattle.psa_model.specs.Drafts.{element as element_contents}
use Rattle.psa_model.specs.Drafts.{Contents, formula_contents, instruction_contents, instruction_step, path_contents, end_contents, branch_contents}
use Rattle.psa_model.specs.Truth.{within}
use Rattle.psa_model.proofs.Levels.{within-more}
use Rattle.psa_names.specs.Outlines.{Outline, Entry, Entries, functional_event, plain, formula_outline, instruction_outline, end_outline, branch_outlines}
use Rattle.psa_names.specs.Outlines.{instruction_layer as outline_layer}
use Rattle.psa_names.specs.Chains.{is_within}
use Rattle.psa_names.specs.Resolved.{resolved_formula}
use Rattle.psa_names.specs.Collected.{collected_by, collected_layer, end_collected, branch_collected}
use Rattle.psa_names.specs.ModelOfDraft.{model_from}
use Rattle.psa_names.proofs.ListPlaces.{all-append, all-joined, all-more}
use Rattle.psa_checks.proofs.Definitions.{AreEntries}
use Rattle.psa_checks.proofs.SoundElements.{IsSound, all_stand, some-level, inside, sound-parts}
use Rattle.psa_checks.proofs.FormulaLevels.{formula-within}
use Rattle.psa_checks.proofs.CollectedPlaces.{collected-of, layer-sound, block-parts, if-parts}
use Rattle.psa_checks.proofs.BranchForms.{numbers-suc}
use Rattle.psa_names.proofs.BranchLevels.{outlines-suc, collected-suc}
use Rattle.psa_checks.proofs.CollectedNesting.{none-collected}

-- a formula in a definition is within so many levels in the model
abbrev pub resolves_within : ℕ → Entries → Entry → DraftFormula → Bool
resolves_within levels entries from f = within levels (model_from entries) (resolved_formula entries from f)

resolves-more : (levels : ℕ) (entries : Entries) (from : Entry) (fs : List DraftFormula)
    → list_all (resolves_within levels entries from) fs ≡ true
    → list_all (resolves_within (suc levels) entries from) fs ≡ true
resolves-more levels entries from fs h =
    all-more (resolves_within levels entries from) (resolves_within (suc levels) entries from) fs
    (λ f k. within-more levels (model_from entries) (resolved_formula entries from f) k) h

abbrev CollectedAt : Entries → ℕ → Type 0
CollectedAt entries levels = (from : Entry) (i : DraftInstruction)
    → IsSound entries levels from (instruction_outline i ∷ []) (instruction_contents i ∷ [])
    → list_all (resolves_within levels entries from) (collected_by i) ≡ true

each-collected : (levels : ℕ) (entries : Entries) (from : Entry) → CollectedAt entries levels
    → (all : List DraftInstruction)
    → IsSound entries levels from (map instruction_outline all) (map instruction_contents all)
    → list_all (resolves_within levels entries from) (flat_map (λ fs. fs) (map collected_by all)) ≡ true
each-collected levels entries from at [] fine = refl
each-collected levels entries from at (i ∷ all) fine =
    let parts = sound-parts entries levels from (instruction_outline i ∷ []) (map instruction_outline all)
    (instruction_contents i ∷ []) (map instruction_contents all) fine in
    all-joined (resolves_within levels entries from) (collected_by i) _ (at from i parts.0)
    (each-collected levels entries from at all parts.1)

collected-layer : (levels : ℕ) (entries : Entries) (from : Entry) → AreEntries entries → CollectedAt entries levels
    → (x : DraftInstruction-F DraftInstruction)
    → IsSound entries (suc levels) from (outline_layer
    (map-DraftInstruction DraftInstruction Outline instruction_outline x) ∷ [])
    (instruction_step (map-DraftInstruction DraftInstruction Contents instruction_contents x) ∷ [])
    → list_all (resolves_within (suc levels) entries from)
    (collected_layer (map-DraftInstruction DraftInstruction (List DraftFormula) collected_by x)) ≡ true
collected-layer levels entries from are below (DraftInstruction-F.Collect f) fine =
    let whole : IsSound entries (suc levels) from (plain (formula_outline f ∷ []) ∷ [])
    (element_contents true None (formula_contents f ∷ []) ∷ []) =
    record { within = fine.within; stand = fine.stand; numbers = fine.numbers } in
    let inner = inside entries levels from None (formula_outline f ∷ []) true None (formula_contents f ∷ []) whole in
    and_from _ true (within-more levels (model_from entries) (resolved_formula entries from f)
    (formula-within levels entries are from f inner.fine)) refl
collected-layer levels entries from are below (DraftInstruction-F.SetHouse name state) fine = refl
collected-layer levels entries from are below (DraftInstruction-F.Block all) fine =
    resolves-more levels entries from _ (each-collected levels entries from below all
    (block-parts entries levels from all fine))
collected-layer levels entries from are below (DraftInstruction-F.Rule name) fine = refl
collected-layer levels entries from are below (DraftInstruction-F.If test first second) fine =
    let parts = if-parts entries levels from test first second fine in
    resolves-more levels entries from _ (all-joined (resolves_within levels entries from) _ _
    (each-collected levels entries from below first parts.2)
    (each-collected levels entries from below second parts.3))

collected-at : (levels : ℕ) (entries : Entries) → AreEntries entries → CollectedAt entries levels
collected-at zero entries are from i fine = absurd (some-level entries from _ [] _ fine)
collected-at (suc levels) entries are from i fine =
    subst (λ (fs : List DraftFormula). list_all (resolves_within (suc levels) entries from) fs ≡ true)
    (sym (collected-of i))
    (collected-layer levels entries from are (collected-at levels entries are) (out-DraftInstruction i)
    (layer-sound entries (suc levels) from i fine))

-- the formulas that instructions within some levels collect are within as many
pub steps-resolve : (levels : ℕ) (entries : Entries) (from : Entry) → AreEntries entries
    → (all : List DraftInstruction)
    → IsSound entries levels from (map instruction_outline all) (map instruction_contents all)
    → list_all (resolves_within levels entries from) (flat_map collected_by all) ≡ true
steps-resolve levels entries from are [] fine = refl
steps-resolve levels entries from are (i ∷ all) fine =
    let parts = sound-parts entries levels from (instruction_outline i ∷ []) (map instruction_outline all)
    (instruction_contents i ∷ []) (map instruction_contents all) fine in
    all-joined (resolves_within levels entries from) (collected_by i) _
    (collected-at levels entries are from i parts.0) (steps-resolve levels entries from are all parts.1)

-- ---- branches

abbrev BranchAt : Entries → ℕ → Type 0
BranchAt entries depth = (levels : ℕ) (from : Entry) (b : DraftBranch)
    → IsSound entries levels from (branch_outlines depth b) (branch_contents depth b ∷ [])
    → list_all (resolves_within levels entries from) (branch_collected depth b) ≡ true

path-resolves : (depth levels : ℕ) (entries : Entries) (from : Entry) (path : DraftForkPath) → BranchAt entries depth
    → IsSound entries levels from (plain (branch_outlines depth path.branch) ∷ [])
    (path_contents (λ b. branch_contents depth b) path ∷ [])
    → list_all (resolves_within levels entries from) (branch_collected depth path.branch) ≡ true
path-resolves depth zero entries from path at fine = absurd (some-level entries from _ [] _ fine)
path-resolves depth (suc levels) entries from path at fine =
    let whole : IsSound entries (suc levels) from (plain (branch_outlines depth path.branch) ∷ [])
    (element_contents true None (branch_contents depth path.branch ∷ []) ∷ []) =
    record { within = fine.within; stand = fine.stand; numbers = fine.numbers } in
    let inner = inside entries levels from None (branch_outlines depth path.branch) true None
    (branch_contents depth path.branch ∷ []) whole in
    resolves-more levels entries from _ (at levels from path.branch inner.fine)

abbrev path_outline : ℕ → DraftForkPath → Outline
path_outline depth path = plain (branch_outlines depth path.branch)

paths-resolve : (depth levels : ℕ) (entries : Entries) (from : Entry) → BranchAt entries depth
    → (paths : List DraftForkPath)
    → IsSound entries levels from (map (path_outline depth) paths)
    (map (path_contents (λ b. branch_contents depth b)) paths)
    → list_all (resolves_within levels entries from) (flat_map (λ path. branch_collected depth path.branch) paths)
    ≡ true
paths-resolve depth levels entries from at [] fine = refl
paths-resolve depth levels entries from at (path ∷ paths) fine =
    let parts = sound-parts entries levels from (path_outline depth path ∷ []) (map (path_outline depth) paths)
    (path_contents (λ b. branch_contents depth b) path ∷ [])
    (map (path_contents (λ b. branch_contents depth b)) paths) fine in
    all-joined (resolves_within levels entries from) (branch_collected depth path.branch) _
    (path-resolves depth levels entries from path at parts.0)
    (paths-resolve depth levels entries from at paths parts.1)

end-resolves : (depth levels : ℕ) (entries : Entries) (from : Entry) → BranchAt entries depth
    → (x : DraftBranchEnd-F DraftBranchEnd DraftBranch DraftForkPath)
    → IsSound entries levels from (end_outline (λ below. branch_outlines depth below) x ∷ [])
    (end_contents (λ b. branch_contents depth b) x ∷ [])
    → list_all (resolves_within levels entries from) (end_collected (λ b. branch_collected depth b) x) ≡ true
end-resolves depth zero entries from at (DraftBranchEnd-F.Fork name paths) fine =
    absurd (some-level entries from _ [] _ fine)
end-resolves depth (suc levels) entries from at (DraftBranchEnd-F.Fork name paths) fine =
    let inner = inside entries levels from (Some (record { kind = functional_event; written = name }))
    (map (path_outline depth) paths) true (Some name) (map (path_contents (λ b. branch_contents depth b)) paths)
    fine in
    resolves-more levels entries from _ (paths-resolve depth levels entries from at paths inner.fine)
end-resolves depth levels entries from at (DraftBranchEnd-F.Sequence name) fine = refl
end-resolves depth levels entries from at (DraftBranchEnd-F.Branch name) fine = refl

-- the formulas that a branch within some levels collects are within as many
pub branch-resolves : (depth : ℕ) (entries : Entries) → AreEntries entries → BranchAt entries depth
branch-resolves zero entries are levels from b fine = none-collected (resolves_within levels entries from) b
branch-resolves (suc depth) entries are levels from b fine =
    let all = map instruction_outline b.instructions in
    let last = end_outline (λ below. branch_outlines depth below) (out-DraftBranchEnd b.end) in
    let numbers = numbers-suc depth b (and_parts _ true fine.numbers).0 in
    let within_parts = all-append (is_within levels entries from) all (last ∷ [])
    (subst (λ (os : List Outline). list_all (is_within levels entries from) os ≡ true) (outlines-suc depth b)
    fine.within) in
    let stand = all-append (all_stand entries from) all (last ∷ [])
    (subst (λ (os : List Outline). list_all (all_stand entries from) os ≡ true) (outlines-suc depth b)
    fine.stand) in
    let own_fine : IsSound entries levels from (map instruction_outline b.instructions)
    (map instruction_contents b.instructions) =
    record { within = within_parts.0; stand = stand.0; numbers = numbers.0 } in
    let end_fine : IsSound entries levels from (end_outline (λ below. branch_outlines depth below)
    (out-DraftBranchEnd b.end) ∷ []) (end_contents (λ below. branch_contents depth below)
    (out-DraftBranchEnd b.end) ∷ []) = record {
      within = within_parts.1;
      stand = stand.1;
      numbers = and_from _ true numbers.1 refl;
    } in
    subst (λ (fs : List DraftFormula). list_all (resolves_within levels entries from) fs ≡ true)
    (sym (collected-suc depth b))
    (all-joined (resolves_within levels entries from) (flat_map collected_by b.instructions) _
    (steps-resolve levels entries from are b.instructions own_fine)
    (end-resolves depth levels entries from (branch-resolves depth entries are) (out-DraftBranchEnd b.end) end_fine))
