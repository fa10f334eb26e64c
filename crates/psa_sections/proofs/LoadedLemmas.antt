-- What was loaded has what the sections of its targets need.
use Rattle.std.proofs.Common.{◌≡◌, ◌≤◌, ◌<◌, ℕ, zero, suc, Bool, true, false, List, [], ◌∷◌, Option, None, Some, map, length, if◌then◌else◌, refl, sym, ap, ◌∙◌, subst, arith}
use Rattle.std.specs.Prelude.{All, IfSome, Ok, nat_lt, slice_index_or}
use Rattle.std.proofs.lemmas.Option.{slice_get_read}
use Rattle.psa_number.specs.Ends.{Ends}
use Rattle.psa_number.specs.Operations.{IsInUnit}
use Rattle.psa_model.specs.Values.{values_of}
use Rattle.psa_model.proofs.UnitValues.{values-in}
use Rattle.std.specs.List.{slice_get, list_all}
use Rattle.std.specs.Option.{option_or}
use Rattle.std.proofs.lemmas.List.{length-map}
use Rattle.std.proofs.lemmas.Bool.{and_parts}
use Rattle.std.proofs.lemmas.Bool.Decides.{nat_tests}
use Rattle.psa_model.specs.declared.expanded.Expanded.{Expanded}
use Rattle.psa_model.specs.declared.fault.ModelFault.{ModelFault}
use Rattle.psa_model.specs.declared.ids.EventNumber.{EventNumber}
use Rattle.psa_model.specs.declared.limits.TheConstants.{MAX_EVENTS}
use Rattle.psa_model.specs.declared.targets.Target.{Target}
use Rattle.psa_model.specs.Expansion.{expanded_of}
use Rattle.psa_model.specs.PathFaults.{walk_fault}
use Rattle.psa_model.specs.PathTargets.{targets_of}
use Rattle.psa_model.specs.declared.fault.FaultKind.TheVariants.{TooManyEvents}
use Rattle.psa_model.specs.Faults.{fault_at}
use Rattle.psa_model.specs.RankFaults.{place_of_target, rank_fault, too_many_events}
use Rattle.psa_model.specs.Quantities.{has_quantities}
use Rattle.psa_model.specs.Ranks.{ranks_of}
use Rattle.psa_model.specs.Standing.{target_stands}
use Rattle.psa_model.proofs.StandingTargets.{targets-standing}
use Rattle.psa_outcome.specs.declared.loaded.Loaded.{Loaded}
use Rattle.psa_outcome.specs.Analyses.{analysis_of_expanded, with_quantities}
use Rattle.psa_outcome.specs.Loading.{IsLoaded, loaded_analysis}
use Rattle.psa_outcome.specs.Runs.{all_targets}
use Rattle.psa_outcome.proofs.SettingsLemmas.{IsOf, of-model, reached, unfaulted}

-- ---- lists

-- what all elements pass, each passes
passed : {A : Type 0} (test : A → Bool) (xs : List A) (place : ℕ) (x : A) → list_all test xs ≡ true → slice_get xs place ≡ Some x → test x ≡ true
passed test [] place x all is = absurd (cc)
passed test (y ∷ xs) zero x all is =
    let e : y ≡ x = cc in subst (λ z. test z ≡ true) e (and_parts (test y) (list_all test xs) all).0
passed test (y ∷ xs) (suc place) x all is = passed test xs place x (and_parts (test y) (list_all test xs) all).1 is

-- the image of an element stands at its place
mapped : {A B : Type 0} (f : A → B) (xs : List A) (place : ℕ) (x : A) → slice_get xs place ≡ Some x → slice_get (map f xs) place ≡ Some (f x)
mapped f [] place x is = absurd (cc)
mapped f (y ∷ xs) zero x is = let e : y ≡ x = cc in ap (λ z. Some (f z)) e
mapped f (y ∷ xs) (suc place) x is = mapped f xs place x is

-- ---- ranks

-- where neither of two is found, none is
neither : {A : Type 0} (one other : Option A) → option_or one other ≡ None → (one ≡ None) × (other ≡ None)
neither (Some x) other h = absurd (cc)
neither None other h = (refl, h)

-- a target without a fault has few events
few : (expanded : Expanded) (target : Target) → too_many_events expanded target ≡ None → length (ranks_of expanded target) ≤ MAX_EVENTS
few expanded target h = of (nat_lt MAX_EVENTS (length (ranks_of expanded target))) (fault_at TooManyEvents (place_of_target expanded.model target)) refl h
  where
    of : (b : Bool) (found : ModelFault) → nat_lt MAX_EVENTS (length (ranks_of expanded target)) ≡ b → (if b then Some found else None) ≡ None → length (ranks_of expanded target) ≤ MAX_EVENTS
    of true found is h = absurd (cc)
    of false found is h = grind (arith, nat_tests)

all-few : (expanded : Expanded) (targets : List Target) (place : ℕ) (target : Target) → rank_fault expanded targets ≡ None → slice_get targets place ≡ Some target → length (ranks_of expanded target) ≤ MAX_EVENTS
all-few expanded [] place target h is = absurd (cc)
all-few expanded (one ∷ targets) zero target h is =
    let e : one ≡ target = cc in
    subst (λ t. length (ranks_of expanded t) ≤ MAX_EVENTS) e
    (few expanded one (neither (too_many_events expanded one) (rank_fault expanded targets) h).0)
all-few expanded (one ∷ targets) (suc place) target h is =
    all-few expanded targets place target (neither (too_many_events expanded one) (rank_fault expanded targets) h).1 is

-- ---- what was loaded

module _ (loaded : Loaded) (is : IsLoaded loaded) where
  events-are : IsOf loaded.settings (expanded_of loaded.settings.ccf loaded.expanded.model) (has_quantities loaded.settings) (loaded_analysis loaded)
  events-are = of-model loaded.settings loaded.expanded.model (loaded_analysis loaded) is.analysed

  no-rank-fault : rank_fault loaded.expanded loaded.targets ≡ None
  no-rank-fault =
      subst (λ (targets : List Target). rank_fault loaded.expanded targets ≡ None) (sym is.targets)
      (subst (λ (expanded : Expanded). rank_fault expanded (targets_of loaded.expanded.model) ≡ None) (sym events-are.events_are)
      (unfaulted (rank_fault (expanded_of loaded.settings.ccf loaded.expanded.model) (targets_of loaded.expanded.model))
      (λ u. with_quantities loaded.settings (expanded_of loaded.settings.ccf loaded.expanded.model)) (loaded_analysis loaded)
      (reached (walk_fault loaded.expanded.model) (λ u. analysis_of_expanded loaded.settings (expanded_of loaded.settings.ccf loaded.expanded.model)) (loaded_analysis loaded) is.analysed)))

  module _ (place : ℕ) (target : Target) (stands : slice_get loaded.targets place ≡ Some target) where
    -- a target has few events
    pub few-events : length (ranks_of loaded.expanded target) ≤ MAX_EVENTS
    few-events = all-few loaded.expanded loaded.targets place target no-rank-fault stands

    -- it stands in the model
    pub target-stands : target_stands loaded.expanded.model target ≡ true
    target-stands =
        passed (target_stands loaded.expanded.model) loaded.targets place target
        (subst (λ (targets : List Target). list_all (target_stands loaded.expanded.model) targets ≡ true) (sym is.targets)
        (targets-standing loaded.expanded.model is.model))
        stands

    -- its ranks stand at its place
    pub ranks-at : slice_get loaded.ranks place ≡ Some (ranks_of loaded.expanded target)
    ranks-at =
        subst (λ (ranks : List (List EventNumber)). slice_get ranks place ≡ Some (ranks_of loaded.expanded target)) (sym is.ranks)
        (mapped (ranks_of loaded.expanded) loaded.targets place target stands)

  -- its intervals lie in 0 to 1
  pub values-in-unit : IfSome loaded.values (All IsInUnit)
  values-in-unit = of loaded.values events-are.values_are
    where
      of : (values : Option (List Ends)) → IfSome values (λ values. values_of loaded.settings.mission (expanded_of loaded.settings.ccf loaded.expanded.model) ≡ Ok values) → IfSome values (All IsInUnit)
      of None none = tt
      of (Some values) is = (values-in loaded.settings.mission (expanded_of loaded.settings.ccf loaded.expanded.model) values is).1

-- what is read at an index stands there
pub read-at : {A : Type 0} (xs ys : List A) (place : ℕ) (x : A) → ys ≡ xs → place < length xs → x ≡ slice_index_or ys place x → slice_get xs place ≡ Some x
read-at xs ys place x same below is =
    slice_get_read xs (length xs) place x refl below (subst (λ (l : List _). x ≡ slice_index_or l place x) same is)

-- an element stands at each place
at-place : {A : Type 0} (xs : List A) (place : ℕ) → place < length xs → (x : A) × (slice_get xs place ≡ Some x)
at-place [] place below = absurd (omega arith)
at-place (x ∷ xs) zero below = (x, refl)
at-place (x ∷ xs) (suc place) below = at-place xs place (omega arith)

-- the target at a place is one of the model's
pub target-at : (loaded : Loaded) → IsLoaded loaded → (place count : ℕ) → count ≡ length loaded.targets → place < count → (target : Target) × (slice_get loaded.targets place ≡ Some target) × (slice_get (all_targets (loaded_analysis loaded)) place ≡ Some target)
target-at loaded is place count same below =
    let stands : (target : Target) × (slice_get loaded.targets place ≡ Some target) = at-place loaded.targets place (subst (λ n. place < n) same below) in
    (stands.0, stands.1, subst (λ (l : List Target). slice_get l place ≡ Some stands.0) is.targets stands.1)

-- the ranks at a place are few
pub few-at : (loaded : Loaded) → IsLoaded loaded → (place : ℕ) → place < length loaded.targets → (ys : List (List EventNumber)) (ranks : List EventNumber) → ys ≡ loaded.ranks → ranks ≡ slice_index_or ys place ranks → length ranks ≤ MAX_EVENTS
few-at loaded is place below ys ranks same read =
    let stands : (target : Target) × (slice_get loaded.targets place ≡ Some target) = at-place loaded.targets place below in
    let here : slice_get loaded.ranks place ≡ Some ranks = read-at loaded.ranks ys place ranks same within read in
    let there = ranks-at loaded is place stands.0 stands.1 in
    let e : ranks_of loaded.expanded stands.0 ≡ ranks = cc in
    subst (λ (r : List EventNumber). length r ≤ MAX_EVENTS) e (few-events loaded is place stands.0 stands.1)
  where
    within : place < length loaded.ranks
    within =
        let count : length loaded.ranks ≡ length loaded.targets = ap length is.ranks ∙ length-map loaded.targets (ranks_of loaded.expanded) in
        omega (arith, below, count)

-- a place past the last target is their number
pub count-all : (loaded : Loaded) → IsLoaded loaded → (place end : ℕ) → place ≤ end → end ≤ place → end ≡ length loaded.targets → place ≡ length (all_targets (loaded_analysis loaded))
count-all loaded is place end within past same =
    let e : place ≡ end = omega arith in e ∙ same ∙ ap length is.targets
