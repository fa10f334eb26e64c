-- Branches of a draft within so many levels are within as many in the model.
use Rattle.std.proofs.Common.{◌≡◌, ◌≤◌, ◌<◌, ◌+◌, ℕ, zero, suc, true, List, [], ◌∷◌, ◌++◌, Option, Some, None, map, length, refl, sym, ap, ◌∙◌, subst, arith}
use Rattle.std.proofs.lemmas.Bool.{and_parts, and_from}
use Rattle.std.specs.List.{slice_get, list_all, flat_map}
use Rattle.std.specs.Option.{option_map}
use Rattle.psa_model.specs.declared.limits.TheConstants.{MAX_NESTING}
use Rattle.psa_model.specs.declared.model.EventTree.{EventTree}
use Rattle.psa_model.specs.declared.model.Functional.{Functional}
use Rattle.psa_model.specs.declared.model.NamedBranch.{NamedBranch}
use Rattle.psa_model.specs.declared.model.Sequence.{Sequence}
use Rattle.psa_model.specs.declared.walks.Branch.{Branch}
use Rattle.psa_model.specs.declared.walks.BranchEnd.{out-BranchEnd}
use Rattle.psa_model.specs.declared.walks.ForkPath.{ForkPath}
use Rattle.psa_model.specs.declared.draft.DefinitionKind.TheVariants as kind
use Rattle.psa_model.specs.declared.draft.DraftBody.{DraftBody}
use Rattle.psa_model.specs.declared.draft.DraftBody.TheVariants as body
use Rattle.psa_model.specs.declared.draft.DraftReference.{DraftReference}
use Rattle.psa_model.specs.declared.draft.DraftFormula.{DraftFormula}
use Rattle.psa_model.specs.declared.draft.DraftBranch.{DraftBranch}
use Rattle.psa_model.specs.declared.draft.DraftForkPath.{DraftForkPath}
use Rattle.psa_model.specs.declared.draft.DraftBranchEnd.{DraftBranchEnd, out-DraftBranchEnd}
use Rattle.psa_model.specs.declared.draft.DraftBranchEnd.TheOpen.{DraftBranchEnd-F}
use Rattle.psa_model.specs.Drafts.{element as element_contents}
use Rattle.psa_model.specs.Drafts.{has_body, instruction_contents, path_contents, end_contents, branch_contents}
use Rattle.psa_model.specs.PathLevels.{link_within}
use Rattle.psa_model.specs.WalkLevels.{instruction_within, end_layer, walk_within}
use Rattle.psa_model.proofs.WalkForms.{out-to, out-named, out-fork}
use Rattle.psa_model.proofs.WalkLevels.{walk-more}
use Rattle.psa_names.specs.Outlines.{Outline, Entry, Entries, event_tree, sequence, branch, functional_event, plain, naming, instruction_outline, link_outlines, end_outline, branch_outlines}
use Rattle.psa_names.specs.Chains.{is_within}
use Rattle.psa_names.specs.Ids.{referred_id, tree_id}
use Rattle.psa_names.specs.Collected.{collected_by, collected_in, collected_before, end_collected, branch_collected, all_behind, resolved_path, resolved_end, no_branch, resolved_branch}
use Rattle.psa_names.specs.ModelOfDraft.{model_from, instructions_in, branch_in, link_in, linked_id}
use Rattle.psa_names.proofs.ListPlaces.{all-append}
use Rattle.psa_checks.proofs.KindForms.{tree-body, branch-body, sequence-body}
use Rattle.psa_checks.proofs.Definitions.{AreEntries}
use Rattle.psa_checks.proofs.ReferencesStand.{tree-meant, sequence-meant, branch-meant, functional-meant, referred-at, leads-on}
use Rattle.psa_checks.proofs.SoundElements.{IsSound, all_stand, some-level, inside, sound-parts, entry-sound}
use Rattle.psa_checks.proofs.CollectedPlaces.{StandFrom, CollectedStand, stand-left, stand-right, flat-own}
use Rattle.psa_checks.proofs.InstructionLevels.{instruction-within, each-within, steps-sound, steps-within}
use Rattle.psa_checks.proofs.BranchForms.{no-depth, numbers-suc, path-numbers, collected-whole}
use Rattle.psa_names.proofs.BranchLevels.{outlines-suc, collected-suc}

-- ---- walks

-- each branch of these levels, behind so many collected formulas that stand in the model, is within as many there
abbrev pub WalksAt : Entries → ℕ → Type 0
WalksAt entries levels = (from : Entry) (number depth : ℕ) (b : DraftBranch) → depth ≤ MAX_NESTING
    → IsSound entries levels from (branch_outlines depth b) (branch_contents depth b ∷ [])
    → StandFrom entries from number (branch_collected depth b)
    → walk_within levels (model_from entries) (resolved_branch depth entries from number b) ≡ true

-- what a definition with a body has as its branch
abbrev pub branch_by : Entries → Entry → DraftBody → Branch
branch_by entries one (body.Walk its) = resolved_branch MAX_NESTING entries one (collected_before entries one) its
branch_by entries one _ = no_branch

-- the event tree that a definition is in the model
abbrev pub tree_of : Entries → Entry → EventTree
tree_of entries one = record { name = one.name; place = one.place; start = branch_in entries one }

-- the named branch that a definition is in the model
abbrev pub named_of : Entries → Entry → NamedBranch
named_of entries one = record {
  name = one.name;
  place = one.place;
  tree = record { 0 = tree_id kind.EventTree entries one.container };
  branch = branch_in entries one;
}

-- the functional event that a definition is in the model
abbrev pub functional_of : Entries → Entry → Functional
functional_of entries one = record {
  name = one.name;
  place = one.place;
  tree = record { 0 = tree_id kind.EventTree entries one.container };
}

-- the sequence that a definition is in the model
abbrev pub sequence_of : Entries → Entry → Sequence
sequence_of entries one = record {
  name = one.name;
  place = one.place;
  tree = record { 0 = tree_id kind.EventTree entries one.container };
  instructions = instructions_in entries one;
  link = option_map (λ id. record { 0 = id }) (linked_id entries one);
}

-- the branch of a definition
pub own-walk : (levels place : ℕ) (entries : Entries) (one : Entry) (b : DraftBranch) → CollectedStand entries
    → WalksAt entries levels → slice_get entries place ≡ Some one → one.body ≡ body.Walk b
    → IsSound entries levels one (branch_outlines MAX_NESTING b) (branch_contents MAX_NESTING b ∷ [])
    → walk_within levels (model_from entries) (branch_in entries one) ≡ true
own-walk levels place entries one b sit at there is fine =
    let sits = subst (λ (its : DraftBody). StandFrom entries one (collected_before entries one) (collected_in its)) is
    (sit place one there) in
    ap (λ (its : DraftBody). walk_within levels (model_from entries) (branch_by entries one its)) is
    ∙ at one (collected_before entries one) MAX_NESTING b (omega arith) fine sits

-- the initial state of an event tree is an element
pub tree-sound : (entries : Entries) (levels : ℕ) (one : Entry) (b : DraftBranch)
    → IsSound entries (suc levels) one (plain (branch_outlines MAX_NESTING b) ∷ []) (branch_contents MAX_NESTING b ∷ [])
    → IsSound entries levels one (branch_outlines MAX_NESTING b) (branch_contents MAX_NESTING b ∷ [])
tree-sound entries levels one b fine =
    let whole : IsSound entries (suc levels) one (plain (branch_outlines MAX_NESTING b) ∷ [])
    (element_contents true None (branch_contents MAX_NESTING b ∷ []) ∷ []) =
    record { within = fine.within; stand = fine.stand; numbers = and_from _ true fine.numbers refl } in
    (inside entries levels one None (branch_outlines MAX_NESTING b) true None (branch_contents MAX_NESTING b ∷ [])
    whole).fine

-- the initial state of an event tree is within a level less
pub tree-walk : (levels place : ℕ) (entries : Entries) (one : Entry) → AreEntries entries → CollectedStand entries
    → ((fewer : ℕ) → fewer < levels → WalksAt entries fewer) → slice_get entries place ≡ Some one
    → one.kind ≡ kind.EventTree → list_all (is_within levels entries one) one.outlines ≡ true
    → walk_within levels (model_from entries) (branch_in entries one) ≡ true
tree-walk zero place entries one are sit at there is on =
    let entry = are place one there in
    let b = tree-body one.body (subst (λ k. has_body k one.body ≡ true) is entry.body) in
    let fine = entry-sound entries zero place one kind.EventTree (body.Walk b.0) entry is b.1 on in
    absurd (some-level entries one _ [] _ fine)
tree-walk (suc levels) place entries one are sit at there is on =
    let entry = are place one there in
    let b = tree-body one.body (subst (λ k. has_body k one.body ≡ true) is entry.body) in
    let fine = entry-sound entries (suc levels) place one kind.EventTree (body.Walk b.0) entry is b.1 on in
    walk-more levels (model_from entries) (branch_in entries one)
    (own-walk levels place entries one b.0 sit (at levels (omega arith)) there b.1
    (tree-sound entries levels one b.0 fine))

-- the event tree that a sequence links to
link-by : (levels : ℕ) (entries : Entries) (from : Entry) (link : Option DraftReference) → AreEntries entries
    → CollectedStand entries → ((fewer : ℕ) → fewer < levels → WalksAt entries fewer)
    → IsSound entries levels from (link_outlines link) []
    → link_within (model_from entries) (λ b. walk_within levels (model_from entries) b)
    (option_map (λ id. record { 0 = id }) (option_map (referred_id kind.EventTree event_tree entries from) link))
    ≡ true
link-by levels entries from None are sit at fine = refl
link-by zero entries from (Some name) are sit at fine = absurd (some-level entries from _ [] _ fine)
link-by (suc levels) entries from (Some name) are sit at fine =
    let whole : IsSound entries (suc levels) from (naming event_tree name [] ∷ [])
    (element_contents true (Some name) [] ∷ []) =
    record { within = fine.within; stand = fine.stand; numbers = refl } in
    let inner = inside entries levels from (Some (record { kind = event_tree; written = name })) [] true (Some name)
    [] whole in
    let m = tree-meant entries from name (and_parts _ true inner.own).0 in
    let id = referred_id kind.EventTree event_tree entries from name in
    let there = referred-at entries from kind.EventTree event_tree name (λ one. tree_of entries one.1) m refl in
    let on = leads-on entries from kind.EventTree event_tree name
    (λ to. list_all (λ one. is_within levels entries to one) to.outlines) m refl inner.on in
    let walk = tree-walk levels m.place entries m.one are sit (λ fewer l. at fewer (omega arith)) m.there m.is on in
    rw there (walk-more levels (model_from entries) (branch_in entries m.one) walk)

-- a sequence: its instructions and its link
pub sequence-within : (levels place : ℕ) (entries : Entries) (one : Entry) → AreEntries entries → CollectedStand entries
    → ((fewer : ℕ) → fewer < levels → WalksAt entries fewer) → slice_get entries place ≡ Some one
    → one.kind ≡ kind.Sequence → list_all (is_within levels entries one) one.outlines ≡ true
    → (list_all (λ i. instruction_within levels (model_from entries) i) (sequence_of entries one).instructions ≡ true)
    × (link_within (model_from entries) (λ b. walk_within levels (model_from entries) b)
    (sequence_of entries one).link ≡ true)
sequence-within levels place entries one are sit at there is on =
    let entry = are place one there in
    let b = sequence-body one.body (subst (λ k. has_body k one.body ≡ true) is entry.body) in
    let fine = entry-sound entries levels place one kind.Sequence (body.Steps b.0 b.1) entry is b.2 on in
    let parts = steps-sound entries levels one b.0 b.1 fine in
    let linked = link-by levels entries one b.1 are sit at parts.1 in (
      steps-within levels place entries one b.0 b.1 sit (instruction-within levels entries are sit) there b.2 parts.0,
      ap (λ (its : DraftBody). link_within (model_from entries) (λ b. walk_within levels (model_from entries) b)
          (option_map (λ id. record { 0 = id }) (option_map (referred_id kind.EventTree event_tree entries one)
          (link_in its)))) b.2 ∙ linked,
    )

-- a path of a fork, two levels down
path-within : (levels : ℕ) (entries : Entries) (from : Entry) (number depth : ℕ) (path : DraftForkPath)
    → suc depth ≤ MAX_NESTING → ((fewer : ℕ) → fewer < levels → WalksAt entries fewer)
    → IsSound entries levels from (plain (branch_outlines depth path.branch) ∷ [])
    (path_contents (λ b. branch_contents depth b) path ∷ [])
    → StandFrom entries from number (branch_collected depth path.branch)
    → walk_within levels (model_from entries) (resolved_branch depth entries from number path.branch) ≡ true
path-within zero entries from number depth path few at fine sits = absurd (some-level entries from _ [] _ fine)
path-within (suc levels) entries from number depth path few at fine sits =
    let whole : IsSound entries (suc levels) from (plain (branch_outlines depth path.branch) ∷ [])
    (element_contents true None (branch_contents depth path.branch ∷ []) ∷ []) =
    record { within = fine.within; stand = fine.stand; numbers = fine.numbers } in
    let inner = inside entries levels from None (branch_outlines depth path.branch) true None
    (branch_contents depth path.branch ∷ []) whole in
    walk-more levels (model_from entries) _ (at levels (omega arith) from number depth path.branch (omega arith)
    inner.fine sits)

abbrev path_outline : ℕ → DraftForkPath → Outline
path_outline depth path = plain (branch_outlines depth path.branch)

paths-within : (levels : ℕ) (entries : Entries) (from : Entry) (number depth : ℕ) (paths : List DraftForkPath)
    → suc depth ≤ MAX_NESTING → ((fewer : ℕ) → fewer < levels → WalksAt entries fewer)
    → IsSound entries levels from (map (path_outline depth) paths)
    (map (path_contents (λ b. branch_contents depth b)) paths)
    → StandFrom entries from number (flat_map (λ path. branch_collected depth path.branch) paths)
    → list_all (λ (path : ForkPath). walk_within levels (model_from entries) path.branch)
    (all_behind number (map (resolved_path (λ behind below. resolved_branch depth entries from behind below)) paths))
    ≡ true
paths-within levels entries from number depth [] few at fine sits = refl
paths-within levels entries from number depth (path ∷ paths) few at fine sits =
    let parts = sound-parts entries levels from (path_outline depth path ∷ []) (map (path_outline depth) paths)
    (path_contents (λ b. branch_contents depth b) path ∷ [])
    (map (path_contents (λ b. branch_contents depth b)) paths) fine in
    let rest = flat_map (λ p. branch_collected depth p.branch) paths in
    let numbers = path-numbers (λ b. branch_contents depth b) path (and_parts _ true parts.0.numbers).0 in
    let size : length (branch_collected depth path.branch) ≡ length (branch_collected MAX_NESTING path.branch) =
    ap length (sym (collected-whole depth path.branch (omega arith) numbers)) in
    let later = paths-within levels entries from (number + length (branch_collected depth path.branch))
    depth paths few at parts.1 (stand-right entries from number (branch_collected depth path.branch) rest sits) in
    and_from _ _
    (path-within levels entries from number depth path few at parts.0
    (stand-left entries from number (branch_collected depth path.branch) rest sits))
    (subst (λ (n : ℕ). list_all (λ (p : ForkPath). walk_within levels (model_from entries) p.branch)
    (all_behind (number + n) (map (resolved_path
    (λ behind below. resolved_branch depth entries from behind below)) paths)) ≡ true) size later)

-- the end of a branch
end-within : (levels : ℕ) (entries : Entries) (from : Entry) (number depth : ℕ) → suc depth ≤ MAX_NESTING
    → AreEntries entries → CollectedStand entries → ((fewer : ℕ) → fewer < suc levels → WalksAt entries fewer)
    → (x : DraftBranchEnd-F DraftBranchEnd DraftBranch DraftForkPath)
    → IsSound entries (suc levels) from (end_outline (λ below. branch_outlines depth below) x ∷ [])
    (end_contents (λ b. branch_contents depth b) x ∷ [])
    → StandFrom entries from number (end_collected (λ below. branch_collected depth below) x)
    → end_layer levels (model_from entries) (λ b. walk_within levels (model_from entries) b)
    (out-BranchEnd (resolved_end entries from (λ behind below. resolved_branch depth entries from behind below)
    number x)) ≡ true
end-within levels entries from number depth few are sit at (DraftBranchEnd-F.Fork name paths) fine sits =
    let inner = inside entries levels from (Some (record { kind = functional_event; written = name }))
    (map (path_outline depth) paths) true (Some name) (map (path_contents (λ b. branch_contents depth b)) paths)
    fine in
    let m = functional-meant entries from name (and_parts _ true inner.own).0 in
    let id = referred_id kind.FunctionalEvent functional_event entries from name in
    let there = referred-at entries from kind.FunctionalEvent functional_event name
    (λ one. functional_of entries one.1) m refl in
    rw (
      out-fork (record { 0 = id }) (all_behind number
          (map (resolved_path (λ behind below. resolved_branch depth entries from behind below)) paths)),
      there,
    )
    (paths-within levels entries from number depth paths few (λ fewer l. at fewer (omega arith)) inner.fine sits)
end-within levels entries from number depth few are sit at (DraftBranchEnd-F.Sequence name) fine sits =
    let inner = inside entries levels from (Some (record { kind = sequence; written = name })) [] true (Some name)
    [] fine in
    let m = sequence-meant entries from name (and_parts _ true inner.own).0 in
    let id = referred_id kind.Sequence sequence entries from name in
    let there = referred-at entries from kind.Sequence sequence name (λ one. sequence_of entries one.1) m refl in
    let on = leads-on entries from kind.Sequence sequence name
    (λ to. list_all (λ one. is_within levels entries to one) to.outlines) m refl inner.on in
    let parts = sequence-within levels m.place entries m.one are sit (λ fewer l. at fewer (omega arith))
    m.there m.is on in
    rw (out-to (record { 0 = id }), there) (and_from _ _ parts.0 parts.1)
end-within levels entries from number depth few are sit at (DraftBranchEnd-F.Branch name) fine sits =
    let inner = inside entries levels from (Some (record { kind = branch; written = name })) [] true (Some name)
    [] fine in
    let m = branch-meant entries from name (and_parts _ true inner.own).0 in
    let id = referred_id kind.Branch branch entries from name in
    let there = referred-at entries from kind.Branch branch name (λ one. named_of entries one.1) m refl in
    let on = leads-on entries from kind.Branch branch name
    (λ to. list_all (λ one. is_within levels entries to one) to.outlines) m refl inner.on in
    let entry = are m.place m.one m.there in
    let b = branch-body m.one.body (subst (λ k. has_body k m.one.body ≡ true) m.is entry.body) in
    let own = entry-sound entries levels m.place m.one kind.Branch (body.Walk b.0) entry m.is b.1 on in
    rw (out-named (record { 0 = id }), there)
    (own-walk levels m.place entries m.one b.0 sit (at levels (omega arith)) m.there b.1 own)

walk-layer : (levels : ℕ) (entries : Entries) → AreEntries entries → CollectedStand entries
    → ((fewer : ℕ) → fewer < suc levels → WalksAt entries fewer) → WalksAt entries (suc levels)
unfolding walk_within resolved_branch
walk-layer levels entries are sit at from number zero b few fine sits =
    absurd (no-depth b (and_parts _ true fine.numbers).0)
walk-layer levels entries are sit at from number (suc depth) b few fine sits =
    let all = map instruction_outline b.instructions in
    let last = end_outline (λ below. branch_outlines depth below) (out-DraftBranchEnd b.end) in
    let numbers = numbers-suc depth b (and_parts _ true fine.numbers).0 in
    let within = all-append (is_within (suc levels) entries from) all (last ∷ [])
    (subst (λ (os : List Outline). list_all (is_within (suc levels) entries from) os ≡ true)
    (outlines-suc depth b) fine.within) in
    let stand = all-append (all_stand entries from) all (last ∷ [])
    (subst (λ (os : List Outline). list_all (all_stand entries from) os ≡ true) (outlines-suc depth b)
    fine.stand) in
    let own = subst (λ (fs : List DraftFormula). StandFrom entries from number fs) (collected-suc depth b) sits in
    let own_fine : IsSound entries (suc levels) from (map instruction_outline b.instructions)
    (map instruction_contents b.instructions) =
    record { within = within.0; stand = stand.0; numbers = numbers.0 } in
    let end_fine : IsSound entries (suc levels) from
    (end_outline (λ below. branch_outlines depth below) (out-DraftBranchEnd b.end) ∷ [])
    (end_contents (λ below. branch_contents depth below) (out-DraftBranchEnd b.end) ∷ []) =
    record { within = within.1; stand = stand.1; numbers = and_from _ true numbers.1 refl } in
    let rest = end_collected (λ below. branch_collected depth below) (out-DraftBranchEnd b.end) in
    let firsts = stand-left entries from number (flat_map collected_by b.instructions) rest own in
    let firsts_flat = subst (λ (fs : List DraftFormula). StandFrom entries from number fs)
    (sym (flat-own collected_by b.instructions)) firsts in
    and_from _ _
    (each-within (suc levels) entries from (instruction-within (suc levels) entries are sit)
    number b.instructions own_fine firsts_flat)
    (end-within levels entries from (number + length (flat_map collected_by b.instructions)) depth few are sit at
    (out-DraftBranchEnd b.end) end_fine (stand-right entries from number (flat_map collected_by b.instructions)
    rest own))

walks-below : (levels : ℕ) (entries : Entries) → AreEntries entries → CollectedStand entries → (fewer : ℕ) → fewer < levels
    → WalksAt entries fewer
walks-below zero entries are sit fewer l = absurd (omega arith)
walks-below (suc levels) entries are sit zero l =
    λ from number depth b few fine sits. no-walk from number depth b few fine sits
  where
    no-walk : WalksAt entries zero
    no-walk from number zero b few fine sits = absurd (no-depth b (and_parts _ true fine.numbers).0)
    no-walk from number (suc depth) b few fine sits =
        absurd (nothing (map instruction_outline b.instructions)
        (subst (λ (os : List Outline). IsSound entries zero from os (branch_contents (suc depth) b ∷ []))
        (outlines-suc depth b) fine))
      where
        nothing : (all : List Outline) → IsSound entries zero from
            (all ++ end_outline (λ below. branch_outlines depth below) (out-DraftBranchEnd b.end) ∷ [])
            (branch_contents (suc depth) b ∷ []) → ⊥
        nothing [] f = some-level entries from _ [] _ f
        nothing (o ∷ others) f = some-level entries from o _ _ f
walks-below (suc levels) entries are sit (suc fewer) l =
    walk-layer fewer entries are sit (λ less h. walks-below levels entries are sit less (omega arith))

-- a branch within some levels in a definition is within as many in the model
pub walk-at : (levels : ℕ) (entries : Entries) → AreEntries entries → CollectedStand entries → WalksAt entries levels
walk-at levels entries are sit = walks-below (suc levels) entries are sit levels (omega arith)
