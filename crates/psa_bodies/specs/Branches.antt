-- Branches with what they collect, by levels. (This project's own.)
use Rattle.std.specs.Prelude.{ℕ, List, map, length}
use Rattle.std.specs.List.{flat_map}
use Rattle.psa_model.specs.declared.walks.Branch.{Branch}
use Rattle.psa_model.specs.declared.walks.BranchEnd.{BranchEnd}
use Rattle.psa_model.specs.declared.walks.ForkPath.{ForkPath}
use Rattle.psa_model.specs.declared.draft.DraftFormula.{DraftFormula}
use Rattle.psa_model.specs.declared.draft.DraftBranch.{DraftBranch}
use Rattle.psa_model.specs.declared.draft.DraftForkPath.{DraftForkPath}
use Rattle.psa_model.specs.declared.draft.DraftBranchEnd.{DraftBranchEnd}
use Rattle.psa_model.specs.declared.draft.DraftBranchEnd.TheOpen.{DraftBranchEnd-F}
use Rattle.psa_names.specs.Outlines.{Reference, Entry, Entries, branch_outlines}
use Rattle.psa_names.specs.Chains.{references_in}
use Rattle.psa_names.specs.Collected.{Collecting, branch_collected, end_collected, resolved_branch, resolved_end, resolved_path}
use Rattle.psa_bodies.specs.Collecting.{listed}

abbrev pub branch_value : ℕ → Entries → Entry → DraftBranch → Collecting Branch
branch_value levels entries from branch =
    record { size = length (branch_collected levels branch); behind = λ number. resolved_branch levels entries from number branch }

abbrev pub end_value : ℕ → Entries → Entry → DraftBranchEnd-F DraftBranchEnd DraftBranch DraftForkPath → Collecting BranchEnd
end_value levels entries from end = record {
  size = length (end_collected (λ below. branch_collected levels below) end);
  behind = λ number. resolved_end entries from (λ behind below. resolved_branch levels entries from behind below) number end;
}

abbrev pub path_value : ℕ → Entries → Entry → DraftForkPath → Collecting ForkPath
path_value levels entries from path = resolved_path (λ behind below. resolved_branch levels entries from behind below) path

abbrev pub paths_value : ℕ → Entries → Entry → List DraftForkPath → Collecting (List ForkPath)
paths_value levels entries from paths = listed (map (path_value levels entries from) paths)

abbrev pub path_formulas : ℕ → DraftForkPath → List DraftFormula
path_formulas levels path = branch_collected levels path.branch

abbrev pub path_references : ℕ → DraftForkPath → List Reference
path_references levels path = flat_map references_in (branch_outlines levels path.branch)
