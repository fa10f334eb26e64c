-- From the trees of files to the analysis that a report is about, or to the first fault: that of shape, of names, of
-- the paths through event trees, of too many events, of values. The order is this project's own.
use Rattle.std.specs.Prelude.{List, Option, Some, None, Result, Ok, Err, if◌then◌else◌}
use Rattle.psa_number.specs.Ends.{Ends}
use Rattle.psa_text.specs.declared.tree.Element.{Element}
use Rattle.psa_model.specs.declared.draft.Draft.{Draft}
use Rattle.psa_model.specs.declared.expanded.Expanded.{Expanded}
use Rattle.psa_model.specs.declared.fault.ModelFault.{ModelFault}
use Rattle.psa_model.specs.declared.model.Model.{Model}
use Rattle.psa_model.specs.declared.settings.Settings.{Settings}
use Rattle.psa_model.specs.Expansion.{expanded_of}
use Rattle.psa_model.specs.PathFaults.{walk_fault}
use Rattle.psa_model.specs.PathTargets.{targets_of}
use Rattle.psa_model.specs.RankFaults.{rank_fault}
use Rattle.psa_model.specs.Values.{values_of}
use Rattle.psa_elements.specs.DraftReading.{draft_of}
use Rattle.psa_elements.specs.ShapeFaults.{shape_fault}
use Rattle.psa_names.specs.NameFaults.{name_fault}
use Rattle.psa_names.specs.ModelOfDraft.{model_of}
use Rattle.psa_model.specs.Quantities.{has_quantities}
use Rattle.psa_model.specs.Report.{Analysis}

-- a later step, unless a fault was found before it
abbrev pub unless : {A : Type 0} → Option ModelFault → (Unit {0} → Result A ModelFault) → Result A ModelFault
unless (Some found) later = Err found
unless None later = later tt

-- the analysis with the events' intervals
abbrev pub with_values : Settings → Expanded → Result (List Ends) ModelFault → Result Analysis ModelFault
with_values settings expanded (Err found) = Err found
with_values settings expanded (Ok values) = Ok (record { settings = settings; expanded = expanded; values = Some values })

-- the intervals are computed where the settings ask for quantities
abbrev pub with_quantities : Settings → Expanded → Result Analysis ModelFault
with_quantities settings expanded =
    if has_quantities settings then with_values settings expanded (values_of settings.mission expanded)
    else Ok (record { settings = settings; expanded = expanded; values = None })

-- the analysis of a model with its events, or its first fault: of the number of events, of a value
abbrev pub analysis_of_expanded : Settings → Expanded → Result Analysis ModelFault
analysis_of_expanded settings expanded =
    unless (rank_fault expanded (targets_of expanded.model)) (λ u. with_quantities settings expanded)

-- the analysis of a model, or its first fault: of paths, of the number of events, of a value
abbrev pub analysis_of_model : Settings → Model → Result Analysis ModelFault
analysis_of_model settings model =
    unless (walk_fault model) (λ u. analysis_of_expanded settings (expanded_of settings.ccf model))

-- the analysis of a draft, or its first fault: of names first
abbrev pub analysis_of_draft : Settings → Draft → Result Analysis ModelFault
analysis_of_draft settings draft = unless (name_fault draft) (λ u. analysis_of_model settings (model_of draft))

-- the analysis of files by the roots of their trees
abbrev pub analysis_of : Settings → List Element → Result Analysis ModelFault
analysis_of settings roots = unless (shape_fault roots) (λ u. analysis_of_draft settings (draft_of roots))
