-- What is within some levels is within more, and so many branches are then enough.
use Rattle.std.proofs.Common.{◌≡◌, ◌==◌, ℕ, zero, suc, Bool, true, List, [], ◌∷◌, ◌++◌, Option, None, Some, length, ◌&&◌, refl}
use Rattle.std.specs.Prelude.{nat_le}
use Rattle.std.proofs.lemmas.Bool.{and_parts, false≢true}
use Rattle.std.specs.List.{slice_get, list_all}
use Rattle.psa_model.specs.declared.ids.TreeId.{TreeId}
use Rattle.psa_model.specs.declared.model.Model.{Model}
use Rattle.psa_model.specs.declared.model.EventTree.{EventTree}
use Rattle.psa_model.specs.declared.model.Functional.{Functional}
use Rattle.psa_model.specs.declared.model.NamedBranch.{NamedBranch}
use Rattle.psa_model.specs.declared.model.RuleDefinition.{RuleDefinition}
use Rattle.psa_model.specs.declared.model.Sequence.{Sequence}
use Rattle.psa_model.specs.declared.walks.Branch.{Branch}
use Rattle.psa_model.specs.declared.walks.BranchEnd.{BranchEnd}
use Rattle.psa_model.specs.declared.walks.BranchEnd.TheOpen.{BranchEnd-F}
use Rattle.psa_model.specs.declared.walks.BranchEnd.TheViews.{out-BranchEnd}
use Rattle.psa_model.specs.declared.walks.ForkPath.{ForkPath}
use Rattle.psa_model.specs.declared.walks.Instruction.{Instruction}
use Rattle.psa_model.specs.declared.walks.Instruction.TheOpen.{Instruction-F}
use Rattle.psa_model.specs.declared.walks.Instruction.TheViews.{out-Instruction}
use Rattle.psa_model.specs.declared.walks.Test.{Test}
use Rattle.psa_model.specs.declared.walks.Test.TheOpen.{Test-F}
use Rattle.psa_model.specs.declared.walks.Test.TheViews.{out-Test}
use Rattle.psa_model.specs.PathLevels.{passes_there, link_within, end_within, branch_within}
use Rattle.psa_model.specs.Truth.{within}
use Rattle.psa_model.specs.WalkLevels.{test_layer, test_within, instruction_layer, instruction_within, end_layer, walk_within}
use Rattle.psa_model.proofs.Levels.{within-more as formula-more}

and-both : (a b : Bool) → a ≡ true → b ≡ true → (a && b) ≡ true
and-both a b p q = rw (p, q) refl

pub all-more : {A : Type 0} (below above : A → Bool) → ((a : A) → below a ≡ true → above a ≡ true) → (items : List A) → list_all below items ≡ true → list_all above items ≡ true
all-more below above more [] h = refl
all-more below above more (a ∷ items) h =
    let parts = and_parts (below a) (list_all below items) h in and-both _ _ (more a parts.0) (all-more below above more items parts.1)

there-more : {A : Type 0} (below above : A → Bool) → ((a : A) → below a ≡ true → above a ≡ true) → (found : Option A) → passes_there found below ≡ true → passes_there found above ≡ true
there-more below above more None h = h
there-more below above more (Some a) h = more a h

test-more-layer : (model : Model) (below above : Test → Bool) → ((t : Test) → below t ≡ true → above t ≡ true) → (layer : Test-F Test) → test_layer model below layer ≡ true → test_layer model above layer ≡ true
test-more-layer model below above more (Test-F.Initiating id) h = h
test-more-layer model below above more (Test-F.Functional name state) h = h
test-more-layer model below above more (Test-F.All tests) h =
    let parts = and_parts (nat_le 1 (length tests)) (list_all below tests) h in and-both _ _ parts.0 (all-more below above more tests parts.1)
test-more-layer model below above more (Test-F.Any tests) h =
    let parts = and_parts (nat_le 1 (length tests)) (list_all below tests) h in and-both _ _ parts.0 (all-more below above more tests parts.1)
test-more-layer model below above more (Test-F.Not tests) h =
    let parts = and_parts (length tests == 1) (list_all below tests) h in and-both _ _ parts.0 (all-more below above more tests parts.1)

test-more : (n : ℕ) (model : Model) (test : Test) → test_within n model test ≡ true → test_within (suc n) model test ≡ true
unfolding test_within
test-more zero model test h = absurd (false≢true h)
test-more (suc n) model test h = test-more-layer model _ _ (λ t. test-more n model t) (out-Test test) h

instruction-more-layer : (n : ℕ) (model : Model) (below above : Instruction → Bool) → ((i : Instruction) → below i ≡ true → above i ≡ true) → (layer : Instruction-F Instruction) → instruction_layer n model below layer ≡ true → instruction_layer (suc n) model above layer ≡ true
instruction-more-layer n model below above more (Instruction-F.Collect id) h =
    there-more (λ formula. within n model formula) (λ formula. within (suc n) model formula) (λ formula. formula-more n model formula) (slice_get model.formulas id.0) h
instruction-more-layer n model below above more (Instruction-F.SetHouse house state) h = h
instruction-more-layer n model below above more (Instruction-F.Block inside) h = all-more below above more inside h
instruction-more-layer n model below above more (Instruction-F.Rule id) h =
    there-more _ _ (λ (rule : RuleDefinition). all-more below above more rule.instructions) (slice_get model.rules id.0) h
instruction-more-layer n model below above more (Instruction-F.If test first second) h =
    let numbers = and_parts (length first == 1 && nat_le (length second) 1) _ h in
    let inside = and_parts (test_within n model test) (list_all below (first ++ second)) numbers.1 in
    and-both _ _ numbers.0 (and-both _ _ (test-more n model test inside.0) (all-more below above more (first ++ second) inside.1))

-- an instruction within some levels is within one more
pub instruction-more : (n : ℕ) (model : Model) (one : Instruction) → instruction_within n model one ≡ true → instruction_within (suc n) model one ≡ true
unfolding instruction_within
instruction-more zero model one h = absurd (false≢true h)
instruction-more (suc n) model one h = instruction-more-layer n model _ _ (λ i. instruction-more n model i) (out-Instruction one) h

link-more : (model : Model) (below above : Branch → Bool) → ((b : Branch) → below b ≡ true → above b ≡ true) → (link : Option TreeId) → link_within model below link ≡ true → link_within model above link ≡ true
link-more model below above more None h = h
link-more model below above more (Some tree) h = there-more _ _ (λ (t : EventTree). more t.start) (slice_get model.event_trees tree.0) h

end-more : (n : ℕ) (model : Model) (below above : Branch → Bool) → ((b : Branch) → below b ≡ true → above b ≡ true) → (end : BranchEnd-F BranchEnd Branch ForkPath) → end_layer n model below end ≡ true → end_layer (suc n) model above end ≡ true
end-more n model below above more (BranchEnd-F.Fork functional paths) h =
    there-more _ _
    (λ (f : Functional). all-more _ _ (λ (path : ForkPath). more path.branch) paths)
    (slice_get model.functionals functional.0) h
end-more n model below above more (BranchEnd-F.Sequence id) h =
    there-more _ _
    (λ (sequence : Sequence) k.
    let parts = and_parts (list_all (instruction_within n model) sequence.instructions) _ k in
    and-both _ _ (all-more (instruction_within n model) (instruction_within (suc n) model) (λ i. instruction-more n model i) sequence.instructions parts.0)
    (link-more model below above more sequence.link parts.1))
    (slice_get model.sequences id.0) h
end-more n model below above more (BranchEnd-F.Branch id) h =
    there-more _ _ (λ (named : NamedBranch). more named.branch) (slice_get model.branches id.0) h

-- a branch whose walk is within some levels has it within one more
pub walk-more : (n : ℕ) (model : Model) (branch : Branch) → walk_within n model branch ≡ true → walk_within (suc n) model branch ≡ true
unfolding walk_within
walk-more zero model branch h = absurd (false≢true h)
walk-more (suc n) model branch h =
    let parts = and_parts (list_all (instruction_within (suc n) model) branch.instructions) _ h in
    and-both _ _ (all-more (instruction_within (suc n) model) (instruction_within (suc (suc n)) model) (λ i. instruction-more (suc n) model i) branch.instructions parts.0)
    (end-more n model _ _ (λ b. walk-more n model b) (out-BranchEnd branch.end) parts.1)

-- a branch within some levels is so by its branches alone
end-ways : (n : ℕ) (model : Model) (below above : Branch → Bool) → ((b : Branch) → below b ≡ true → above b ≡ true) → (end : BranchEnd-F BranchEnd Branch ForkPath) → end_layer n model below end ≡ true → end_within model above end ≡ true
end-ways n model below above more (BranchEnd-F.Fork functional paths) h =
    there-more _ _
    (λ (f : Functional). all-more _ _ (λ (path : ForkPath). more path.branch) paths)
    (slice_get model.functionals functional.0) h
end-ways n model below above more (BranchEnd-F.Sequence id) h =
    there-more _ _
    (λ (sequence : Sequence) k.
    let parts = and_parts (list_all (instruction_within n model) sequence.instructions) _ k in
    link-more model below above more sequence.link parts.1)
    (slice_get model.sequences id.0) h
end-ways n model below above more (BranchEnd-F.Branch id) h =
    there-more _ _ (λ (named : NamedBranch). more named.branch) (slice_get model.branches id.0) h

-- where a walk is within some levels, so many branches are enough for its ways
pub walk-ways : (n : ℕ) (model : Model) (branch : Branch) → walk_within n model branch ≡ true → branch_within n model branch ≡ true
unfolding walk_within branch_within
walk-ways zero model branch h = absurd (false≢true h)
walk-ways (suc n) model branch h =
    let parts = and_parts (list_all (instruction_within (suc n) model) branch.instructions) _ h in
    end-ways n model _ _ (λ b. walk-ways n model b) (out-BranchEnd branch.end) parts.1
