-- References as they are kept, and those of the parts of a definition. (This project's own.)
use Rattle.std.specs.Prelude.{ℕ, List, map, flat_map, filter_map, Some, None, if◌then◌else◌}
use Rattle.psa_model.specs.PathNames.{is_path}
use Rattle.psa_model.specs.declared.draft.DraftBranch.{DraftBranch}
use Rattle.psa_model.specs.declared.draft.DraftFactor.{DraftFactor}
use Rattle.psa_model.specs.declared.draft.DraftForkPath.{DraftForkPath}
use Rattle.psa_model.specs.declared.draft.DraftReference.{DraftReference}
use Rattle.psa_model.specs.declared.draft.EventKind.TheVariants as kind
use Rattle.psa_names.specs.Outlines as outline
use Rattle.psa_names.specs.Outlines.{Reference, ReferenceKind, branch_outlines, expression_outline}
use Rattle.psa_names.specs.Chains.{references_in}
use Rattle.psa_lookup.specs.declared.asked.Asked.{Asked}
use Rattle.psa_lookup.specs.declared.asked.Asks.{Asks}
use Rattle.psa_lookup.specs.declared.asked.Asks.TheVariants as asks

abbrev pub kind_asked : Asks → ReferenceKind
kind_asked (asks.Event its) = outline.event its
kind_asked asks.Parameter = outline.parameter
kind_asked asks.EventTree = outline.event_tree
kind_asked asks.Rule = outline.rule
kind_asked asks.Sequence = outline.sequence
kind_asked asks.Branch = outline.branch
kind_asked asks.FunctionalEvent = outline.functional_event
kind_asked asks.InitiatingEvent = outline.initiating_event
kind_asked asks.FunctionalEventAnywhere = outline.functional_event_anywhere

abbrev pub asked_reference : Asked → Reference
asked_reference one = record { kind = kind_asked one.asks; written = one.written.now }

abbrev pub asked_references : List Asked → List Reference
asked_references all = map asked_reference all

abbrev pub branch_references : ℕ → DraftBranch → List Reference
branch_references levels one = flat_map references_in (branch_outlines levels one)

abbrev pub paths_references : ℕ → List DraftForkPath → List Reference
paths_references levels paths = flat_map (λ path. branch_references levels path.branch) paths

abbrev pub factor_references : List DraftFactor → List Reference
factor_references factors = flat_map (λ factor. references_in (expression_outline factor.expression)) factors

-- the members that are paths, as references to basic events
abbrev pub member_references : List DraftReference → List Reference
member_references members =
    filter_map (λ member. if is_path member.name then Some (record { kind = outline.event kind.Basic; written = member }) else None) members
