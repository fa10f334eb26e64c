-- Whether so many levels are enough for all ways from a branch: the references on them stand, and none
-- has more branches. So no way leads back.
use Rattle.std.specs.Prelude.{ℕ, zero, suc, Bool, true, false, Option, None, Some}
use Rattle.std.specs.List.{slice_get, list_all}
use Rattle.psa_model.specs.declared.ids.TreeId.{TreeId}
use Rattle.psa_model.specs.declared.model.Model.{Model}
use Rattle.psa_model.specs.declared.walks.Branch.{Branch}
use Rattle.psa_model.specs.declared.walks.BranchEnd.{BranchEnd}
use Rattle.psa_model.specs.declared.walks.BranchEnd.TheOpen.{BranchEnd-F}
use Rattle.psa_model.specs.declared.walks.ForkPath.{ForkPath}
use Rattle.psa_model.specs.declared.walks.BranchEnd.TheViews.{out-BranchEnd}

-- a test of what stands at an id
abbrev pub passes_there : {A : Type 0} → Option A → (A → Bool) → Bool
passes_there None test = false
passes_there (Some a) test = test a

abbrev pub link_within : Model → (Branch → Bool) → Option TreeId → Bool
link_within model below None = true
link_within model below (Some tree) = passes_there (slice_get model.event_trees tree.0) (λ t. below t.start)

abbrev pub end_within : Model → (Branch → Bool) → BranchEnd-F BranchEnd Branch ForkPath → Bool
end_within model below (BranchEnd-F.Fork functional paths) =
    passes_there (slice_get model.functionals functional.0) (λ f. list_all (λ path. below path.branch) paths)
end_within model below (BranchEnd-F.Sequence id) =
    passes_there (slice_get model.sequences id.0) (λ sequence. link_within model below sequence.link)
end_within model below (BranchEnd-F.Branch id) =
    passes_there (slice_get model.branches id.0) (λ named. below named.branch)

unfoldable pub branch_within : ℕ → Model → Branch → Bool
branch_within zero model branch = false
branch_within (suc levels) model branch = end_within model (λ b. branch_within levels model b) (out-BranchEnd branch.end)
