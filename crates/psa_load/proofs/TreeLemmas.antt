-- An analysis of trees, step by step: the analysis of the model, or the first fault of shape or of names.
use Rattle.std.proofs.Common.{◌≡◌, List, Option, Some, None, Result, Ok, Err, IfOk, sym, ap, ◌∙◌}
use Rattle.psa_text.specs.declared.tree.Element.{Element}
use Rattle.psa_model.specs.declared.draft.Draft.{Draft}
use Rattle.psa_model.specs.declared.fault.ModelFault.{ModelFault}
use Rattle.psa_model.specs.declared.model.Model.{Model}
use Rattle.psa_model.specs.declared.settings.Settings.{Settings}
use Rattle.psa_model.specs.Report.{Analysis}
use Rattle.psa_elements.specs.DraftReading.{draft_of}
use Rattle.psa_elements.specs.ShapeFaults.{shape_fault}
use Rattle.psa_names.specs.ModelOfDraft.{model_of}
use Rattle.psa_names.specs.NameFaults.{name_fault}
use Rattle.psa_outcome.specs.declared.loaded.Loaded.{Loaded}
use Rattle.psa_outcome.specs.Analyses.{unless, analysis_of_model, analysis_of_draft, analysis_of}
use Rattle.psa_outcome.specs.Loading.{IsLoaded, loaded_analysis}
use Rattle.psa_load.specs.declared.analysis.AnalysisError.{AnalysisError}

module _ (settings : Settings) (roots : List Element) where
  -- a fault of shape is the first
  pub shape-stops : (found : ModelFault) → shape_fault roots ≡ Some found → analysis_of settings roots ≡ Err found
  shape-stops found is = ap (λ f. unless f (λ u. analysis_of_draft settings (draft_of roots))) is

  module _ (shaped : shape_fault roots ≡ None) (draft : Draft) (is : draft ≡ draft_of roots) where
    -- what is left to do where the shape has no fault
    named : (faults : Option ModelFault) → name_fault draft ≡ faults → analysis_of settings roots ≡ unless faults (λ u. analysis_of_model settings (model_of draft))
    named faults found =
        ap (λ f. unless f (λ u. analysis_of_draft settings (draft_of roots))) shaped
        ∙ ap (analysis_of_draft settings) (sym is)
        ∙ ap (λ f. unless f (λ u. analysis_of_model settings (model_of draft))) found

    -- a fault of names is the first
    pub names-stop : (found : ModelFault) → name_fault draft ≡ Some found → analysis_of settings roots ≡ Err found
    names-stop found fault = named (Some found) fault

    module _ (sound : name_fault draft ≡ None) (model : Model) (made : model ≡ model_of draft) where
      -- what comes of the model is the analysis
      pub modelled : (analysis : Result Analysis ModelFault) → analysis_of_model settings model ≡ analysis → analysis_of settings roots ≡ analysis
      modelled analysis from = named None sound ∙ ap (analysis_of_model settings) (sym made) ∙ from

      -- so is what is loaded of it
      pub loaded-trees : (result : Result Loaded AnalysisError)
          → IfOk result IsLoaded → IfOk result (λ loaded. loaded.settings ≡ settings) → IfOk result (λ loaded. loaded.expanded.model ≡ model)
          → IfOk result (λ loaded. analysis_of settings roots ≡ Ok (loaded_analysis loaded))
      loaded-trees (Ok loaded) is-loaded same of-model =
          modelled (Ok (loaded_analysis loaded))
          (ap (λ (s : Settings). analysis_of_model s model) (sym same)
          ∙ ap (λ (m : Model). analysis_of_model loaded.settings m) (sym of-model)
          ∙ is-loaded.analysed)
      loaded-trees (Err e) is-loaded same of-model = tt
