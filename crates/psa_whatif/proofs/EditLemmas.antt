-- What an edit that is taken leaves of what is loaded, and of truth.
use Rattle.std.proofs.Common.{◌≡◌, ◌≢◌, ◌<◌, ◌==◌, ℕ, Bool, true, false, List, [], ◌∷◌, Option, Some, None, Ok, map, not, if◌then◌else◌, refl, sym, ap, ap₂, ◌∙◌, subst, inl, inr}
use Rattle.std.proofs.lemmas.Bool.{false≢true}
use Rattle.std.proofs.lemmas.Bool.Decides.{eqb_tells}
use Rattle.std.proofs.lemmas.List.{length-map}
use Rattle.std.proofs.lemmas.Option.{slice_get-map}
use Rattle.std.proofs.lemmas.List.Elements.{All-head, All-tail}
use Rattle.std.specs.Prelude.{All, IfSome, is_some}
use Rattle.std.specs.List.{flat_map, list_all, list_any}
use Rattle.std.specs.Option.{option_map}
use Rattle.psa_number.specs.Ends.{Ends}
use Rattle.psa_number.specs.Scaled.{Scaled}
use Rattle.psa_model.specs.declared.expanded.Expanded.{Expanded}
use Rattle.psa_model.specs.declared.expanded.ExpandedEvent.{ExpandedEvent}
use Rattle.psa_model.specs.declared.fault.ModelFault.{ModelFault}
use Rattle.psa_model.specs.declared.ids.EventNumber.{EventNumber}
use Rattle.psa_model.specs.declared.ids.Place.{Place}
use Rattle.psa_model.specs.declared.model.BasicEvent.{BasicEvent}
use Rattle.psa_model.specs.declared.model.House.{House}
use Rattle.psa_model.specs.declared.model.Model.{Model}
use Rattle.psa_model.specs.declared.model.Valued.{Valued}
use Rattle.psa_model.specs.declared.model.Valued.TheVariants as valued
use Rattle.psa_model.specs.declared.settings.Settings.{Settings}
use Rattle.psa_model.specs.declared.targets.Target.{Target}
use Rattle.psa_model.specs.Expansion.{events_of_valued, expanded_of}
use Rattle.psa_model.specs.Models.{IsModel, IsValue, is_at}
use Rattle.psa_model.specs.PathFaults.{walk_fault}
use Rattle.psa_model.specs.PathTargets.{targets_of}
use Rattle.psa_model.specs.Quantities.{has_quantities}
use Rattle.psa_model.specs.RankFaults.{rank_fault}
use Rattle.psa_model.specs.Ranks.{ranks_of}
use Rattle.psa_model.specs.Report.{Analysis, ranked_truth}
use Rattle.psa_model.specs.Targets.{occurs_by_rank, target_truth}
use Rattle.psa_model.specs.Values.{values_from, values_of}
use Rattle.psa_outcome.specs.Analyses.{analysis_of_expanded, analysis_of_model, unless, with_quantities, with_values}
use Rattle.psa_outcome.specs.declared.loaded.Loaded.{Loaded}
use Rattle.psa_outcome.specs.Loading.{IsLoaded, loaded_analysis}
use Rattle.psa_outcome.proofs.SettingsLemmas.{of-model, reached, unfaulted}
use Rattle.psa_whatif.specs.EditedLoads.{loaded_after, loaded_with, values_with}
use Rattle.psa_whatif.specs.Edits.{Edit, house, value, IsEdited, IsTaken, edited, is_member, meets_house, target_houses, with_edit, with_item, with_number, with_state}
use Rattle.psa_whatif.proofs.ChangedLists.{item-all, item-kept, item-length, item-other}
use Rattle.psa_whatif.proofs.ChangedModels.{changed}
use Rattle.psa_whatif.proofs.ChangedPaths.{changed_with, rank_fault-same, ranks-same, targets-same, walk_fault-same, with_events}
use Rattle.psa_whatif.proofs.ChangedPromise.{AreAlike, model-kept, number-value, size-kept}
use Rattle.psa_whatif.proofs.ChangedTruth.{Agree, target-agrees}
use Rattle.psa_whatif.proofs.ChangedValues.{houses-values, value-values}

-- ---- alike

-- the basic events and house events of a model after an edit
abbrev basics_after : Edit → Model → List BasicEvent
basics_after (house id state) m = m.basics
basics_after (value id number) m = with_item (with_number number) m.basics id

abbrev houses_after : Edit → Model → List House
houses_after (house id state) m = with_item (with_state state) m.houses id
houses_after (value id number) m = m.houses

-- what an item at a place is, where it may be changed
number-place : (place : Place) (number : Scaled) (b : BasicEvent)
    → is_at place (Some (with_number number b)) ≡ is_at place (Some b)
number-place place number b = refl

-- a member is none that is outside all groups
apart : (m : Model) (id other : ℕ) → is_member m id ≡ false → is_member m other ≡ true → other ≢ id
apart m id other outside inside same =
    false≢true (sym outside ∙ ap (is_member m) (sym same) ∙ inside)

-- the lists of an edit that is taken are alike
edit-alike : (settings : Settings) (values : Option (List Ends)) (events : List ExpandedEvent) (m : Model) (edit : Edit)
    → IsModel m → IsTaken (record { settings = settings; expanded = with_events m events; values = values }) edit
    → AreAlike m (basics_after edit m) (houses_after edit m)
edit-alike settings values events m (house id state) is taken = record {
  many = record { basics = refl; houses = item-length (with_state state) m.houses id };
  places = λ place other. refl;
  members = λ other inside. refl;
  values = is.basics;
}
edit-alike settings values events m (value id number) is taken = record {
  many = record { basics = item-length (with_number number) m.basics id; houses = refl };
  places = λ place other.
      item-kept (with_number number) (is_at place) (λ b. number-place place number b) m.basics id other;
  members = λ other inside. item-other (with_number number) m.basics id other (apart m id other taken.2 inside);
  values =
      item-all (λ (b : BasicEvent). IfSome b.expression (IsValue m)) (with_number number) (λ b. number-value m number)
      m.basics id is.basics;
}

-- the model after an edit has these lists
edit-changed : (edit : Edit) (m : Model)
    → with_edit edit m ≡ changed m (basics_after edit m) (houses_after edit m)
edit-changed (house id state) m = refl
edit-changed (value id number) m = refl

-- ---- the analysis

-- an entry of the order of values has the same events
valued-same : (m : Model) (bs : List BasicEvent) (hs : List House) (on : Bool) (one : Valued)
    → events_of_valued (changed m bs hs) on one ≡ events_of_valued m on one
valued-same m bs hs on (valued.Basic id) = refl
valued-same m bs hs on (valued.Group id) = refl

-- the events are the same
expanded-same : (m : Model) (bs : List BasicEvent) (hs : List House) (on : Bool)
    → expanded_of on (changed m bs hs) ≡ changed_with m bs hs (expanded_of on m).events
expanded-same m bs hs on =
    ap (λ (events : Valued → List ExpandedEvent). changed_with m bs hs (flat_map events m.order))
    (λ i one. valued-same m bs hs on one i)

-- with the intervals that are asked for
quantities-given : (settings : Settings) (expanded : Expanded) (has : Bool) (values : Option (List Ends))
    → is_some values ≡ has → IfSome values (λ vs. values_of settings.mission expanded ≡ Ok vs)
    → (if has then with_values settings expanded (values_of settings.mission expanded)
    else Ok (record { settings = settings; expanded = expanded; values = None }))
    ≡ Ok (record { settings = settings; expanded = expanded; values = values })
quantities-given settings expanded true None given are = absurd (cc)
quantities-given settings expanded true (Some values) given are = ap (with_values settings expanded) are
quantities-given settings expanded false None given are = refl
quantities-given settings expanded false (Some values) given are = absurd (cc)

-- the analysis of a changed model, where that of the model itself has no fault
changed-analysed : (settings : Settings) (m : Model) (bs : List BasicEvent) (hs : List House)
    (analysis : Analysis) (values : Option (List Ends))
    → analysis_of_model settings m ≡ Ok analysis → is_some values ≡ has_quantities settings
    → IfSome values (λ vs. values_from settings.mission (changed m bs hs) (expanded_of settings.ccf m).events ≡ Ok vs)
    → analysis_of_model settings (changed m bs hs) ≡ Ok (record {
      settings = settings;
      expanded = changed_with m bs hs (expanded_of settings.ccf m).events;
      values = values;
    })
changed-analysed settings m bs hs analysis values is given are =
    let walked : walk_fault m ≡ None =
    unfaulted (walk_fault m) (λ u. analysis_of_expanded settings (expanded_of settings.ccf m)) analysis is in
    let after : analysis_of_expanded settings (expanded_of settings.ccf m) ≡ Ok analysis =
    reached (walk_fault m) (λ u. analysis_of_expanded settings (expanded_of settings.ccf m)) analysis is in
    let ranked : rank_fault (expanded_of settings.ccf m) (targets_of m) ≡ None =
    unfaulted (rank_fault (expanded_of settings.ccf m) (targets_of m))
    (λ u. with_quantities settings (expanded_of settings.ccf m)) analysis after in
    ap (λ (found : Option ModelFault). unless found
    (λ u. analysis_of_expanded settings (expanded_of settings.ccf (changed m bs hs))))
    (walk_fault-same m bs hs ∙ walked)
    ∙ ap (λ (expanded : Expanded). analysis_of_expanded settings expanded) (expanded-same m bs hs settings.ccf)
    ∙ ap (λ (found : Option ModelFault). unless found
    (λ u. with_quantities settings (changed_with m bs hs (expanded_of settings.ccf m).events)))
    (ap (rank_fault (changed_with m bs hs (expanded_of settings.ccf m).events)) (targets-same m bs hs)
    ∙ rank_fault-same m bs hs (expanded_of settings.ccf m).events (targets_of m) ∙ ranked)
    ∙ quantities-given settings (changed_with m bs hs (expanded_of settings.ccf m).events) (has_quantities settings)
    values given are

-- ---- what is loaded

-- whether there are intervals stays
some-values : (edit : Edit) (events : List ExpandedEvent) (values : Option (List Ends))
    → is_some (values_with edit events values) ≡ is_some values
some-values (house id state) events values = refl
some-values (value id number) events None = refl
some-values (value id number) events (Some values) = refl

-- the intervals are those of the model after the edit
values-after : (settings : Settings) (m : Model) (events : List ExpandedEvent) (edit : Edit)
    (values : Option (List Ends))
    → IsTaken (record { settings = settings; expanded = with_events m events; values = values }) edit
    → IfSome values (λ vs. values_from settings.mission m events ≡ Ok vs)
    → IfSome (values_with edit events values) (λ vs. values_from settings.mission
    (changed m (basics_after edit m) (houses_after edit m)) events ≡ Ok vs)
values-after settings m events (house id state) None taken are = tt
values-after settings m events (house id state) (Some values) taken are =
    houses-values m (with_item (with_state state) m.houses id) settings.mission events ∙ are
values-after settings m events (value id number) None taken are = tt
values-after settings m events (value id number) (Some values) taken are =
    value-values m settings.mission id number events values taken.1 taken.3 are

-- An edit that is taken keeps what is loaded.
pub edit-loaded : (loaded : Loaded) (edit : Edit) → IsLoaded loaded → IsTaken (loaded_analysis loaded) edit
    → IsLoaded (loaded_with edit loaded)
edit-loaded loaded edit is taken =
    let m = loaded.expanded.model in
    let bs = basics_after edit m in
    let hs = houses_after edit m in
    let events = loaded.expanded.events in
    let of = of-model loaded.settings m (loaded_analysis loaded) is.analysed in
    let alike = edit-alike loaded.settings loaded.values events m edit is.model taken in
    let events_are : events ≡ (expanded_of loaded.settings.ccf m).events =
    ap (λ (e : Expanded). e.events) of.events_are in
    let values_are : IfSome loaded.values (λ vs. values_from loaded.settings.mission m events ≡ Ok vs) =
    subst (λ (e : Expanded). IfSome loaded.values (λ vs. values_of loaded.settings.mission e ≡ Ok vs))
    (sym of.events_are) of.values_are in
    let given : is_some (values_with edit events loaded.values) ≡ has_quantities loaded.settings =
    some-values edit events loaded.values ∙ of.has_values in
    let are = values-after loaded.settings m events edit loaded.values taken values_are in
    let analysed : analysis_of_model loaded.settings (changed m bs hs) ≡ Ok (record {
      settings = loaded.settings;
      expanded = changed_with m bs hs events;
      values = values_with edit events loaded.values;
    }) =
    subst (λ (es : List ExpandedEvent). analysis_of_model loaded.settings (changed m bs hs) ≡ Ok (record {
      settings = loaded.settings;
      expanded = changed_with m bs hs es;
      values = values_with edit events loaded.values;
    })) (sym events_are)
    (changed-analysed loaded.settings m bs hs (loaded_analysis loaded) (values_with edit events loaded.values)
    is.analysed given
    (subst (λ (es : List ExpandedEvent). IfSome (values_with edit events loaded.values)
    (λ vs. values_from loaded.settings.mission (changed m bs hs) es ≡ Ok vs)) events_are are)) in
    subst (λ (model : Model). IsLoaded (record {
      settings = loaded.settings;
      expanded = record { model = model; events = events };
      targets = loaded.targets;
      ranks = loaded.ranks;
      values = values_with edit events loaded.values;
    })) (sym (edit-changed edit m))
    (record {
      model = model-kept m bs hs alike is.model;
      few = size-kept m bs hs alike is.few;
      analysed = analysed;
      targets = is.targets ∙ sym (targets-same m bs hs);
      ranks = is.ranks ∙ ap (λ (f : Target → List EventNumber). map f loaded.targets)
          (λ i target. sym (ranks-same m bs hs events target) i);
    })

-- ---- truth

-- the truth by rank, where the truth of the target is the same
ranked-same : (m : Model) (bs : List BasicEvent) (hs : List House) (events : List ExpandedEvent) (target : Target)
    → ((s : ℕ → Bool)
    → target_truth (changed_with m bs hs events) target s ≡ target_truth (with_events m events) target s)
    → ranked_truth (changed_with m bs hs events) target ≡ ranked_truth (with_events m events) target
ranked-same m bs hs events target same =
    ap {B = (ℕ → Bool) → Bool} (λ (ranks : List EventNumber) (s : ℕ → Bool).
    target_truth (changed_with m bs hs events) target (occurs_by_rank s 0 ranks))
    (ranks-same m bs hs events target)
    ∙ (λ i s. same (occurs_by_rank s 0 (ranks_of (with_events m events) target)) i)

-- states that agree everywhere agree at each house event
all-pass : (xs : List ℕ) → list_all (λ id. true) xs ≡ true
all-pass [] = refl
all-pass (x ∷ xs) = all-pass xs

-- A number in place of an expression changes no truth.
pub value-truth : (m : Model) (bs : List BasicEvent) (events : List ExpandedEvent) (target : Target)
    → ranked_truth (changed_with m bs m.houses events) target ≡ ranked_truth (with_events m events) target
value-truth m bs events target =
    ranked-same m bs m.houses events target
    (λ s. target-agrees (λ id. true) m bs m.houses events s target refl (λ id pass. refl)
    (all-pass (target_houses m target)))

-- the house events that are met pass the test of being another one
others-pass : (id : ℕ) (xs : List ℕ) → list_any (λ met. met == id) xs ≡ false
    → list_all (λ met. not (met == id)) xs ≡ true
others-pass id [] none = refl
others-pass id (x ∷ xs) none = elim (eqb_tells x id) [
  | inl e ↦ absurd (false≢true (sym (rw e.0 at none)))
  | inr e ↦ rw e.0 (others-pass id xs (rw e.0 at none))
]

-- the states of other house events stay
states-agree : (state : Bool) (hs : List House) (id : ℕ)
    → Agree (λ met. not (met == id)) (map (λ (h : House). h.state) (with_item (with_state state) hs id))
    (map (λ (h : House). h.state) hs)
states-agree state hs id other pass = elim (eqb_tells other id) [
  | inl e ↦ absurd (false≢true (rw e.0 at pass))
  | inr e ↦
      slice_get-map (λ (h : House). h.state) (with_item (with_state state) hs id) other
      ∙ ap (option_map (λ (h : House). h.state)) (item-other (with_state state) hs id other e.1)
      ∙ sym (slice_get-map (λ (h : House). h.state) hs other)
]

-- A house event that is not met in a target changes none of its truth.
pub house-truth : (m : Model) (events : List ExpandedEvent) (target : Target) (id : ℕ) (state : Bool)
    → meets_house m target id ≡ false
    → ranked_truth (changed_with m m.basics (with_item (with_state state) m.houses id) events) target
    ≡ ranked_truth (with_events m events) target
house-truth m events target id state unmet =
    ranked-same m m.basics (with_item (with_state state) m.houses id) events target
    (λ s. target-agrees (λ met. not (met == id)) m m.basics (with_item (with_state state) m.houses id) events s target
    (length-map (with_item (with_state state) m.houses id) (λ (h : House). h.state)
    ∙ item-length (with_state state) m.houses id ∙ sym (length-map m.houses (λ (h : House). h.state)))
    (states-agree state m.houses id) (others-pass id (target_houses m target) unmet))

-- ---- some edits

-- an edit takes no other one away
pub taken-after : (loaded : Loaded) (edit other : Edit) → IsTaken (loaded_analysis loaded) other
    → IsTaken (loaded_analysis (loaded_with edit loaded)) other
taken-after loaded (house id state) (house other to) taken =
    subst (λ (n : ℕ). other < n) (sym (item-length (with_state state) loaded.expanded.model.houses id)) taken
taken-after loaded (house id state) (value other number) taken = taken
taken-after loaded (value id number) (house other to) taken = taken
taken-after loaded (value id number) (value other to) taken = (
  taken.0,
  subst (λ (n : ℕ). other < n) (sym (item-length (with_number number) loaded.expanded.model.basics id))
      taken.1,
  taken.2,
  taken.3,
)

-- what was taken before some edits is taken after them
pub taken-later : (loaded : Loaded) (edits : List Edit) (other : Edit) → IsTaken (loaded_analysis loaded) other
    → IsTaken (loaded_analysis (loaded_after edits loaded)) other
taken-later loaded [] other taken = taken
taken-later loaded (edit ∷ earlier) other taken =
    taken-after (loaded_after earlier loaded) edit other (taken-later loaded earlier other taken)

-- Edits that are taken keep what is loaded.
pub edits-loaded : (loaded : Loaded) (edits : List Edit) → IsLoaded loaded
    → All (IsTaken (loaded_analysis loaded)) edits → IsLoaded (loaded_after edits loaded)
edits-loaded loaded [] is taken = is
edits-loaded loaded (edit ∷ earlier) is taken =
    edit-loaded (loaded_after earlier loaded) edit
    (edits-loaded loaded earlier is (All-tail (IsTaken (loaded_analysis loaded)) edit earlier taken))
    (taken-later loaded earlier edit (All-head (IsTaken (loaded_analysis loaded)) edit earlier taken))

-- the model and the settings of what is loaded after edits
model-after : (loaded : Loaded) (edits : List Edit)
    → (loaded_after edits loaded).expanded.model ≡ edited edits loaded.expanded.model
model-after loaded [] = refl
model-after loaded (edit ∷ earlier) = ap (with_edit edit) (model-after loaded earlier)

settings-after : (loaded : Loaded) (edits : List Edit) → (loaded_after edits loaded).settings ≡ loaded.settings
settings-after loaded [] = refl
settings-after loaded (edit ∷ earlier) = settings-after loaded earlier

-- What is loaded after edits that are taken is the analysis of the edited model.
pub edits-analysed : (loaded : Loaded) (edits : List Edit) → IsLoaded loaded
    → All (IsTaken (loaded_analysis loaded)) edits
    → IsEdited (loaded_analysis loaded) edits (loaded_analysis (loaded_after edits loaded))
edits-analysed loaded edits is taken =
    ap₂ analysis_of_model (sym (settings-after loaded edits)) (sym (model-after loaded edits))
    ∙ (edits-loaded loaded edits is taken).analysed
