-- The models of worked drafts, by computation on their entries.
use Rattle.std.proofs.Common.{◌≡◌, ◌+◌, ℕ, suc, [], ◌∷◌, ◌++◌, map, length, flat_map, ap, ◌∙◌, refl}
use Rattle.std.specs.Prelude.{codes}
use Rattle.psa_model.specs.ConditionExample.{condition_model}
use Rattle.psa_model.specs.ExampleDrafts.{component_draft, condition_draft, group_draft, initial_state}
use Rattle.psa_model.specs.declared.draft.DraftBranch.{DraftBranch}
use Rattle.psa_model.specs.declared.draft.DraftBranchEnd.{out-DraftBranchEnd}
use Rattle.psa_names.specs.Outlines.{Entry, Entries}
use Rattle.psa_names.specs.Collected.{collected_by, branch_collected, end_collected, resolved_branch, resolved_instructions, resolved_end}
use Rattle.psa_names.specs.ModelOfDraft.{model_from, model_of}
use Rattle.psa_names.proofs.Forms.{at-event, at-connective, at-number, at-initiating, at-functional, at-all, at-collect, at-rule, at-if, out-fork, out-sequence}
use Rattle.psa_names.specs.ExampleModels.{gate_and_group_model}
use Rattle.psa_names.proofs.Entries.{component_laid_out, group_entries, group_laid_out}
use Rattle.psa_names.proofs.Conditions.{condition_entries, condition_laid_out}

-- a level down
collected-suc : (levels : ℕ) (one : DraftBranch) → branch_collected (suc levels) one ≡ flat_map collected_by one.instructions ++ end_collected (λ below. branch_collected levels below) (out-DraftBranchEnd one.end)
unfolding branch_collected
collected-suc levels one = refl

resolved-suc : (levels : ℕ) (entries : Entries) (from : Entry) (number : ℕ) (one : DraftBranch) → resolved_branch (suc levels) entries from number one ≡ record { instructions = resolved_instructions entries from number one.instructions; end = resolved_end entries from (λ behind below. resolved_branch levels entries from behind below) (number + length (flat_map collected_by one.instructions)) (out-DraftBranchEnd one.end) }
unfolding resolved_branch
resolved-suc levels entries from number one = refl

start-collected : (levels : ℕ) → branch_collected (suc (suc levels)) initial_state ≡ []
start-collected levels = simp (collected-suc, out-fork, out-sequence) refl

condition_modelled : model_from (condition_entries (codes "FA")) ≡ condition_model
condition_modelled = simp (start-collected 62, resolved-suc 63, resolved-suc 62, at-event, at-initiating, at-functional, at-all, at-collect, at-rule, at-if, out-fork, out-sequence) refl

pub condition : model_of (condition_draft (codes "FA")) ≡ condition_model
condition = ap model_from (condition_laid_out (codes "FA")) ∙ condition_modelled

group_modelled : model_from group_entries ≡ gate_and_group_model
group_modelled = simp (at-event, at-connective, at-number) refl

pub group : model_of group_draft ≡ gate_and_group_model
group = ap model_from group_laid_out ∙ group_modelled

pub gate_names : map (λ one. one.name) (model_of (component_draft (codes "F.P.g") (codes "x"))).gates ≡ codes "top" ∷ codes "F.P.g" ∷ codes "F.Q.g" ∷ []
gate_names = ap (λ entries. map (λ one. one.name) (model_from entries).gates) (component_laid_out (codes "F.P.g") (codes "x"))

pub basic_names : map (λ one. one.name) (model_of (component_draft (codes "F.P.g") (codes "x"))).basics ≡ codes "F.P.x" ∷ codes "F.Q.x" ∷ codes "s" ∷ []
basic_names = ap (λ entries. map (λ one. one.name) (model_from entries).basics) (component_laid_out (codes "F.P.g") (codes "x"))
