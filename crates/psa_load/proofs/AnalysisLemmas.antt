-- An analysis of a model, step by step: what the steps found is the analysis, or the first fault.
use Rattle.std.proofs.Common.{◌≡◌, true, List, Option, Some, None, Result, Ok, Err, IsErrAnd, map, sym, ap, subst, ◌∙◌}
use Rattle.std.specs.List.{list_all}
use Rattle.psa_model.specs.declared.expanded.Expanded.{Expanded}
use Rattle.psa_model.specs.declared.fault.ModelFault.{ModelFault}
use Rattle.psa_model.specs.declared.model.Model.{Model}
use Rattle.psa_model.specs.declared.settings.Settings.{Settings}
use Rattle.psa_model.specs.declared.targets.Target.{Target}
use Rattle.psa_model.specs.Expansion.{expanded_of}
use Rattle.psa_model.specs.Models.{IsModel, IsOfSize}
use Rattle.psa_model.specs.PathFaults.{walk_fault}
use Rattle.psa_model.specs.PathTargets.{targets_of}
use Rattle.psa_model.specs.RankFaults.{rank_fault}
use Rattle.psa_model.specs.Ranks.{ranks_of}
use Rattle.psa_model.specs.Report.{Analysis}
use Rattle.psa_model.specs.Standing.{target_stands}
use Rattle.psa_model.proofs.StandingTargets.{targets-standing}
use Rattle.psa_walk.specs.declared.listing.WalkError.{WalkError}
use Rattle.psa_walk.specs.declared.listing.WalkError.TheVariants as walk-case
use Rattle.psa_walk.specs.Answers as walk
use Rattle.psa_outcome.specs.declared.loaded.Loaded.{Loaded}
use Rattle.psa_outcome.specs.Analyses.{unless, with_quantities, analysis_of_expanded, analysis_of_model}
use Rattle.psa_outcome.specs.Loading.{IsLoaded, loaded_analysis}
use Rattle.psa_outcome.proofs.OutcomeLemmas.{err-same}
use Rattle.psa_load.specs.declared.analysis.AnalysisError.{AnalysisError}
use Rattle.psa_load.specs.declared.analysis.AnalysisError.TheVariants as error
use Rattle.psa_load.specs.Errors.{walk_error}

-- ---- the steps

module _ (settings : Settings) (model : Model) where
  -- a fault of the paths is the first
  pub walk-stops : (found : ModelFault) → walk_fault model ≡ Some found → analysis_of_model settings model ≡ Err found
  walk-stops found is = ap (λ f. unless f (λ u. analysis_of_expanded settings (expanded_of settings.ccf model))) is

  module _ (sound : walk_fault model ≡ None) (expanded : Expanded) (is : expanded ≡ expanded_of settings.ccf model) (targets : List Target) (are : targets ≡ targets_of model) where
    same-model : expanded.model ≡ model
    same-model = ap (λ (e : Expanded). e.model) is

    same-faults : rank_fault expanded (targets_of expanded.model) ≡ rank_fault expanded targets
    same-faults = ap (rank_fault expanded) (ap targets_of same-model ∙ sym are)

    -- what is left to do where the paths have no fault
    ranked : (faults : Option ModelFault) → rank_fault expanded targets ≡ faults → analysis_of_model settings model ≡ unless faults (λ u. with_quantities settings expanded)
    ranked faults found =
        ap (λ f. unless f (λ u. analysis_of_expanded settings (expanded_of settings.ccf model))) sound
        ∙ ap (analysis_of_expanded settings) (sym is)
        ∙ ap (λ f. unless f (λ u. with_quantities settings expanded)) (same-faults ∙ found)

    -- the fault of a target is the first
    pub rank-stops : (found : ModelFault) → rank_fault expanded targets ≡ Some found → analysis_of_model settings model ≡ Err found
    rank-stops found fault = ranked (Some found) fault

    -- what comes of the values is the analysis
    pub valued : (analysis : Result Analysis ModelFault) → rank_fault expanded targets ≡ None → with_quantities settings expanded ≡ analysis → analysis_of_model settings model ≡ analysis
    valued analysis none values = ranked None none ∙ values

    -- the targets stand
    pub targets-stand : IsModel model → list_all (target_stands expanded.model) targets ≡ true
    targets-stand promised =
        ap (λ (m : Model). list_all (target_stands m) targets) same-model ∙ ap (list_all (target_stands model)) are ∙ targets-standing model promised

-- the steps without a fault make what is loaded
pub is-loaded : (settings : Settings) (model : Model) (loaded : Loaded)
    → IsModel model → IsOfSize model → walk_fault model ≡ None
    → loaded.expanded ≡ expanded_of settings.ccf model → loaded.targets ≡ targets_of model
    → rank_fault loaded.expanded loaded.targets ≡ None → loaded.ranks ≡ map (ranks_of loaded.expanded) loaded.targets
    → with_quantities settings loaded.expanded ≡ Ok (loaded_analysis loaded) → loaded.settings ≡ settings → IsLoaded loaded
is-loaded settings model loaded promised few sound is are none ranked values same = record {
  model = subst IsModel (sym same-model) promised;
  few = subst IsOfSize (sym same-model) few;
  analysed =
      ap (λ (m : Model). analysis_of_model loaded.settings m) same-model
      ∙ ap (λ (s : Settings). analysis_of_model s model) same
      ∙ valued settings model sound loaded.expanded is loaded.targets are (Ok (loaded_analysis loaded)) none values;
  targets = are ∙ ap targets_of (sym same-model);
  ranks = ranked;
}
  where
    same-model : loaded.expanded.model ≡ model
    same-model = ap (λ (e : Expanded). e.model) is

-- ---- errors

-- an error that was passed on is this one
pub answered : {A : Type 0} (result : Result A AnalysisError) (failed : AnalysisError) (found : ModelFault) → IsErrAnd result (λ e. e ≡ failed) → result ≡ Err (error.Fault found) → failed ≡ error.Fault found
answered (Ok made) failed found is same = absurd is
answered (Err e) failed found is same = sym is ∙ err-same same

same-fault : {f g : ModelFault} → error.Fault f ≡ error.Fault g → f ≡ g
same-fault e = cc

module _ {A : Type 0} (result : Result A AnalysisError) (found : ModelFault) where
  -- want of memory is no fault
  pub no-memory : IsErrAnd result (λ e. e ≡ error.Memory) → result ≡ Err (error.Fault found) → ⊥
  no-memory is same = none (answered result error.Memory found is same)
    where
      none : error.Memory ≡ error.Fault found → ⊥
      none e = absurd (cc)

  -- the fault of the paths is the one that is answered
  pub walk-answered : (failed : WalkError) (P : ModelFault → Type 0) → walk.Tells failed P → IsErrAnd result (λ e. e ≡ walk_error failed) → result ≡ Err (error.Fault found) → P found
  walk-answered (walk-case.Fault f) P told is same = subst P (same-fault (answered result (error.Fault f) found is same)) told
  walk-answered walk-case.Memory P told is same = absurd (no-memory is same)
