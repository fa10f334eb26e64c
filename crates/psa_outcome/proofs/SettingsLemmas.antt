-- What an analysis has of its settings.
use Rattle.std.proofs.Common.{◌≡◌, ◌≤◌, ℕ, subst, Bool, true, false, List, Option, Some, None, Result, refl, sym, if◌then◌else◌}
use Rattle.std.specs.Prelude.{Ok, Err, IfSome, is_some}
use Rattle.psa_number.specs.Ends.{Ends}
use Rattle.psa_number.specs.Exponential.{last_term}
use Rattle.psa_text.specs.declared.tree.Element.{Element}
use Rattle.psa_model.specs.declared.expanded.Expanded.{Expanded}
use Rattle.psa_model.specs.declared.fault.ModelFault.{ModelFault}
use Rattle.psa_model.specs.declared.model.Model.{Model}
use Rattle.psa_model.specs.declared.settings.Settings.{Settings}
use Rattle.psa_model.specs.Expansion.{expanded_of}
use Rattle.psa_model.specs.PathFaults.{walk_fault}
use Rattle.psa_model.specs.PathTargets.{targets_of}
use Rattle.psa_model.specs.declared.targets.Target.{Target}
use Rattle.psa_model.specs.Ranks.{ranks_of}
use Rattle.psa_model.specs.Values.{quantities_of, values_of}
use Rattle.psa_model.proofs.HeldTotals.{bound-held, rare-event-held, min-cut-held}
use Rattle.psa_elements.specs.DraftReading.{draft_of}
use Rattle.psa_elements.specs.ShapeFaults.{shape_fault}
use Rattle.psa_names.specs.NameFaults.{name_fault}
use Rattle.psa_outcome.specs.Brackets.{AreBracketed, IsBracketed}
use Rattle.psa_outcome.specs.Analyses.{unless, with_values, with_quantities, analysis_of_expanded, analysis_of_model, analysis_of_draft, analysis_of}
use Rattle.psa_model.specs.RankFaults.{rank_fault}
use Rattle.psa_names.specs.ModelOfDraft.{model_of}
use Rattle.psa_model.specs.Quantities.{has_quantities}
use Rattle.psa_model.specs.Report.{Analysis}

-- a later step that is reached gives the answer
pub reached : {A : Type 0} (found : Option ModelFault) (later : Unit {0} → Result A ModelFault) (x : A) → unless found later ≡ Ok x → later tt ≡ Ok x
reached (Some f) later x p = absurd (cc)
reached None later x p = p

-- and no fault was found before it
pub unfaulted : {A : Type 0} (found : Option ModelFault) (later : Unit {0} → Result A ModelFault) (x : A) → unless found later ≡ Ok x → found ≡ None
unfaulted (Some f) later x p = absurd (cc)
unfaulted None later x p = refl

-- what an analysis has of its settings and its events
pub record IsOf (settings : Settings) (expanded : Expanded) (has : Bool) (analysis : Analysis) : Type 0 where
  pub settings_are : analysis.settings ≡ settings
  pub events_are : analysis.expanded ≡ expanded
  pub has_values : is_some analysis.values ≡ has
  pub values_are : IfSome analysis.values (λ values. values_of settings.mission expanded ≡ Ok values)

of-values : (settings : Settings) (expanded : Expanded) (r : Result (List Ends) ModelFault) (analysis : Analysis) → values_of settings.mission expanded ≡ r → with_values settings expanded r ≡ Ok analysis → IsOf settings expanded true analysis
of-values settings expanded (Err f) analysis is p = absurd (cc)
of-values settings expanded (Ok values) analysis is p =
    let e : record { settings = settings; expanded = expanded; values = Some values } ≡ analysis = cc in
    subst (IsOf settings expanded true) e (record { settings_are = refl; events_are = refl; has_values = refl; values_are = is })

of-quantities : (settings : Settings) (expanded : Expanded) (has : Bool) (analysis : Analysis) → (if has then with_values settings expanded (values_of settings.mission expanded) else Ok (record { settings = settings; expanded = expanded; values = None })) ≡ Ok analysis → IsOf settings expanded has analysis
of-quantities settings expanded true analysis p = of-values settings expanded (values_of settings.mission expanded) analysis refl p
of-quantities settings expanded false analysis p =
    let e : record { settings = settings; expanded = expanded; values = None } ≡ analysis = cc in
    subst (IsOf settings expanded false) e (record { settings_are = refl; events_are = refl; has_values = refl; values_are = tt })

-- an analysis of a model has its settings, the events that they ask for, and values where they do
pub of-model : (settings : Settings) (model : Model) (analysis : Analysis) → analysis_of_model settings model ≡ Ok analysis → IsOf settings (expanded_of settings.ccf model) (has_quantities settings) analysis
of-model settings model analysis p =
    let ranked : analysis_of_expanded settings (expanded_of settings.ccf model) ≡ Ok analysis = reached (walk_fault model) (λ u. analysis_of_expanded settings (expanded_of settings.ccf model)) analysis p in
    of-quantities settings (expanded_of settings.ccf model) (has_quantities settings) analysis
    (reached (rank_fault (expanded_of settings.ccf model) (targets_of model)) (λ u. with_quantities settings (expanded_of settings.ccf model)) analysis ranked)

-- an analysis of trees has its settings, the events that they ask for, and values where they do
pub of-trees : (settings : Settings) (roots : List Element) (analysis : Analysis) → analysis_of settings roots ≡ Ok analysis → IsOf settings (expanded_of settings.ccf (model_of (draft_of roots))) (has_quantities settings) analysis
of-trees settings roots analysis p =
    let named : analysis_of_draft settings (draft_of roots) ≡ Ok analysis = reached (shape_fault roots) (λ u. analysis_of_draft settings (draft_of roots)) analysis p in
    of-model settings (model_of (draft_of roots)) analysis
    (reached (name_fault (draft_of roots)) (λ u. analysis_of_model settings (model_of (draft_of roots))) analysis named)

-- its intervals hold the exact quantities
pub brackets : (settings : Settings) (roots : List Element) (analysis : Analysis) → analysis_of settings roots ≡ Ok analysis → IsBracketed analysis
brackets settings roots analysis p = on analysis.values values
  where
    its : IsOf settings (expanded_of settings.ccf (model_of (draft_of roots))) (has_quantities settings) analysis
    its = of-trees settings roots analysis p

    values : IfSome analysis.values (λ values. values_of analysis.settings.mission analysis.expanded ≡ Ok values)
    values = subst (λ (s : Settings). IfSome analysis.values (λ values. values_of s.mission analysis.expanded ≡ Ok values)) (sym its.settings_are)
        (subst (λ (e : Expanded). IfSome analysis.values (λ values. values_of settings.mission e ≡ Ok values)) (sym its.events_are) its.values_are)

    on : (o : Option (List Ends)) → IfSome o (λ values. values_of analysis.settings.mission analysis.expanded ≡ Ok values) → IfSome o (λ values. (target : Target) (terms : ℕ) → last_term ≤ terms → AreBracketed values (quantities_of terms analysis.settings.mission analysis.expanded) (ranks_of analysis.expanded target))
    on None is = tt
    on (Some values) is = λ target terms le. record {
      bound = λ product. bound-held terms le analysis.settings.mission analysis.expanded values is (ranks_of analysis.expanded target) product;
      rare_event = λ products. rare-event-held terms le analysis.settings.mission analysis.expanded values is (ranks_of analysis.expanded target) products;
      min_cut = λ products. min-cut-held terms le analysis.settings.mission analysis.expanded values is (ranks_of analysis.expanded target) products;
    }
