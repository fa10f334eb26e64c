-- The truth of a formula under other states of house events, where it meets none whose state changed.
use Rattle.std.proofs.Common.{◌≡◌, ℕ, zero, suc, Bool, true, false, List, [], ◌∷◌, Option, Some, None, length, map, ◌&&◌, ◌||◌, refl, sym, ap, ap₂, ◌∙◌, inl, inr, length-set}
use Rattle.std.proofs.lemmas.Bool.Decides.{eqb_tells}
use Rattle.std.proofs.lemmas.List.Folds.{list_all-append}
use Rattle.std.specs.List.{flat_map, list_all, list_any, slice_get, slice_set}
use Rattle.psa_model.specs.declared.expanded.ExpandedEvent.{ExpandedEvent}
use Rattle.psa_model.specs.declared.formula.Formula.{Formula}
use Rattle.psa_model.specs.declared.formula.Formula.TheOpen.{Formula-F}
use Rattle.psa_model.specs.declared.formula.Formula.TheViews.{out-Formula}
use Rattle.psa_model.specs.declared.formula.Formula.TheVariants as variant
use Rattle.psa_model.specs.declared.model.BasicEvent.{BasicEvent}
use Rattle.psa_model.specs.declared.model.Gate.{Gate}
use Rattle.psa_model.specs.declared.model.House.{House}
use Rattle.psa_model.specs.declared.model.Model.{Model}
use Rattle.psa_model.specs.declared.model.TheConstants.{MAX_DEPTH}
use Rattle.psa_model.specs.declared.targets.PathStep.{PathStep}
use Rattle.psa_model.specs.declared.targets.PathStep.TheVariants.{Collect, Set}
use Rattle.psa_model.specs.declared.targets.Target.{Target}
use Rattle.psa_model.specs.declared.targets.Target.TheVariants.{TopEvent, Sequence as of_sequence}
use Rattle.psa_model.specs.Formulas.{truth_of_connective}
use Rattle.psa_model.specs.Targets.{Collected, collected, collected_formula, target_truth}
use Rattle.psa_model.specs.Truth.{at_gate, house_states, state_of, truth, truth_layer}
use Rattle.psa_model.proofs.Levels.{and-left, and-right}
use Rattle.psa_whatif.specs.Edits.{houses_in, houses_layer, target_houses}
use Rattle.psa_whatif.proofs.ChangedLists.{set-other}
use Rattle.psa_whatif.proofs.ChangedModels.{changed}
use Rattle.psa_whatif.proofs.ChangedPaths.{changed_with, with_events}

-- two lists of states agree at the house events that pass a test
abbrev pub Agree : (ℕ → Bool) → List Bool → List Bool → Type 0
Agree test states others = (id : ℕ) → test id ≡ true → slice_get states id ≡ slice_get others id

-- at a gate that is found, both sides agree where they do below it
gate-agrees : (test : ℕ → Bool) (met : Formula → List ℕ) (f g : Formula → Bool)
    → ((one : Formula) → list_all test (met one) ≡ true → f one ≡ g one)
    → (found : Option Gate) → list_all test (at_gate [] met found) ≡ true
    → at_gate false f found ≡ at_gate false g found
gate-agrees test met f g same None pass = refl
gate-agrees test met f g same (Some gate) pass = same gate.formula pass

-- and over the arguments of a connective
map-agrees : (test : ℕ → Bool) (met : Formula → List ℕ) (f g : Formula → Bool)
    → ((one : Formula) → list_all test (met one) ≡ true → f one ≡ g one)
    → (all : List Formula) → list_all test (flat_map met all) ≡ true → map f all ≡ map g all
map-agrees test met f g same [] pass = refl
map-agrees test met f g same (one ∷ more) pass =
    let parts : (list_all test (met one) && list_all test (flat_map met more)) ≡ true =
    sym (list_all-append test (met one) (flat_map met more)) ∙ pass in
    ap₂ (λ (x : Bool) (xs : List Bool). x ∷ xs) (same one (and-left _ _ parts))
    (map-agrees test met f g same more (and-right _ _ parts))

-- one element
layer-agrees : (test : ℕ → Bool) (m : Model) (bs : List BasicEvent) (hs : List House) (events : List ExpandedEvent)
    (states others : List Bool) (s : ℕ → Bool) (met : Formula → List ℕ) (f g : Formula → Bool)
    → Agree test states others
    → ((one : Formula) → list_all test (met one) ≡ true → f one ≡ g one)
    → (one : Formula-F Formula) → list_all test (houses_layer m met one) ≡ true
    → truth_layer (changed_with m bs hs events) states s f one ≡ truth_layer (with_events m events) others s g one
layer-agrees test m bs hs events states others s met f g agree same (Formula-F.Gate id) pass =
    gate-agrees test met f g same (slice_get m.gates id.0) pass
layer-agrees test m bs hs events states others s met f g agree same (Formula-F.Basic id) pass = refl
layer-agrees test m bs hs events states others s met f g agree same (Formula-F.House id) pass =
    ap state_of (agree id.0 (and-left _ _ pass))
layer-agrees test m bs hs events states others s met f g agree same (Formula-F.Constant b) pass = refl
layer-agrees test m bs hs events states others s met f g agree same (Formula-F.Connective op least most all) pass =
    ap (truth_of_connective op least most) (map-agrees test met f g same all pass)

-- a formula
truth-agrees : (test : ℕ → Bool) (m : Model) (bs : List BasicEvent) (hs : List House) (events : List ExpandedEvent)
    (states others : List Bool) (s : ℕ → Bool) → Agree test states others → (n : ℕ) (f : Formula)
    → list_all test (houses_in n m f) ≡ true
    → truth n (changed_with m bs hs events) states s f ≡ truth n (with_events m events) others s f
unfolding truth houses_in
truth-agrees test m bs hs events states others s agree zero f pass = refl
truth-agrees test m bs hs events states others s agree (suc n) f pass =
    layer-agrees test m bs hs events states others s (λ g. houses_in n m g)
    (λ g. truth n (changed_with m bs hs events) states s g) (λ g. truth n (with_events m events) others s g) agree
    (λ g h. truth-agrees test m bs hs events states others s agree n g h) (out-Formula f) pass

-- the length of lists of one item more
suc-same : (n m : ℕ) → suc n ≡ suc m → n ≡ m
suc-same n m same = cc

set-both : (states others : List Bool) (place : ℕ) (state : Bool) → length states ≡ length others
    → slice_get (slice_set states place state) place ≡ slice_get (slice_set others place state) place
set-both [] [] place state long = refl
set-both [] (y ∷ ys) place state long = absurd (cc)
set-both (x ∷ xs) [] place state long = absurd (cc)
set-both (x ∷ xs) (y ∷ ys) zero state long = refl
set-both (x ∷ xs) (y ∷ ys) (suc place) state long = set-both xs ys place state (suc-same _ _ long)

-- lists that agree still do where one state is set in both
set-agrees : (test : ℕ → Bool) (states others : List Bool) (place : ℕ) (state : Bool)
    → length states ≡ length others → Agree test states others
    → Agree test (slice_set states place state) (slice_set others place state)
set-agrees test states others place state long agree id pass = elim (eqb_tells id place) [
  | inl e ↦ rw (e.1) (set-both states others place state long)
  | inr e ↦ set-other states place id state e.1 ∙ agree id pass ∙ sym (set-other others place id state e.1)
]

-- the house events that a path meets
abbrev met_on : Model → List Bool → List PathStep → List ℕ
met_on m states path = flat_map (λ (one : Collected). houses_in (suc MAX_DEPTH) m one.formula) (collected m states path)

-- a formula that may be found, and those behind it
found-agrees : (test : ℕ → Bool) (m : Model) (bs : List BasicEvent) (hs : List House) (events : List ExpandedEvent)
    (s : ℕ → Bool) (found : Option Formula) (states others : List Bool) (behind after : List Collected)
    → Agree test states others
    → list_all test (flat_map (λ (one : Collected). houses_in (suc MAX_DEPTH) m one.formula)
    (collected_formula found others after)) ≡ true
    → (list_all test (flat_map (λ (one : Collected). houses_in (suc MAX_DEPTH) m one.formula) after) ≡ true
    → list_all (λ (one : Collected). truth (suc MAX_DEPTH) (changed_with m bs hs events) one.houses s one.formula)
    behind
    ≡ list_all (λ (one : Collected). truth (suc MAX_DEPTH) (with_events m events) one.houses s one.formula) after)
    → list_all (λ (one : Collected). truth (suc MAX_DEPTH) (changed_with m bs hs events) one.houses s one.formula)
    (collected_formula found states behind)
    ≡ list_all (λ (one : Collected). truth (suc MAX_DEPTH) (with_events m events) one.houses s one.formula)
    (collected_formula found others after)
found-agrees test m bs hs events s None states others behind after agree pass same = same pass
found-agrees test m bs hs events s (Some f) states others behind after agree pass same =
    let parts : (list_all test (houses_in (suc MAX_DEPTH) m f) && list_all test
    (flat_map (λ (one : Collected). houses_in (suc MAX_DEPTH) m one.formula) after)) ≡ true =
    sym (list_all-append test (houses_in (suc MAX_DEPTH) m f) _) ∙ pass in
    ap₂ (λ (x y : Bool). x && y)
    (truth-agrees test m bs hs events states others s agree (suc MAX_DEPTH) f (and-left _ _ parts))
    (same (and-right _ _ parts))

-- all that a path collects is true at the same sets
path-agrees : (test : ℕ → Bool) (m : Model) (bs : List BasicEvent) (hs : List House) (events : List ExpandedEvent)
    (s : ℕ → Bool) (path : List PathStep) (states others : List Bool) → length states ≡ length others
    → Agree test states others → list_all test (met_on m others path) ≡ true
    → list_all (λ (one : Collected). truth (suc MAX_DEPTH) (changed_with m bs hs events) one.houses s one.formula)
    (collected (changed m bs hs) states path)
    ≡ list_all (λ (one : Collected). truth (suc MAX_DEPTH) (with_events m events) one.houses s one.formula)
    (collected m others path)
path-agrees test m bs hs events s [] states others long agree pass = refl
path-agrees test m bs hs events s (Collect id ∷ steps) states others long agree pass =
    found-agrees test m bs hs events s (slice_get m.formulas id.0) states others
    (collected (changed m bs hs) states steps) (collected m others steps) agree pass
    (λ rest. path-agrees test m bs hs events s steps states others long agree rest)
path-agrees test m bs hs events s (Set house state ∷ steps) states others long agree pass =
    path-agrees test m bs hs events s steps (slice_set states house.0 state) (slice_set others house.0 state)
    (length-set states house.0 state ∙ long ∙ sym (length-set others house.0 state))
    (set-agrees test states others house.0 state long agree) pass

-- some path of a sequence
any-agrees : (test : ℕ → Bool) (met : List PathStep → List ℕ) (f g : List PathStep → Bool)
    → ((path : List PathStep) → list_all test (met path) ≡ true → f path ≡ g path)
    → (paths : List (List PathStep)) → list_all test (flat_map met paths) ≡ true → list_any f paths ≡ list_any g paths
any-agrees test met f g same [] pass = refl
any-agrees test met f g same (path ∷ more) pass =
    let parts : (list_all test (met path) && list_all test (flat_map met more)) ≡ true =
    sym (list_all-append test (met path) (flat_map met more)) ∙ pass in
    ap₂ (λ (x y : Bool). x || y) (same path (and-left _ _ parts))
    (any-agrees test met f g same more (and-right _ _ parts))

-- a target is true at the same sets where it meets only house events whose states agree
pub target-agrees : (test : ℕ → Bool) (m : Model) (bs : List BasicEvent) (hs : List House) (events : List ExpandedEvent)
    (s : ℕ → Bool) (target : Target)
    → length (house_states (changed m bs hs)) ≡ length (house_states m)
    → Agree test (house_states (changed m bs hs)) (house_states m)
    → list_all test (target_houses m target) ≡ true
    → target_truth (changed_with m bs hs events) target s ≡ target_truth (with_events m events) target s
target-agrees test m bs hs events s (TopEvent gate) long agree pass =
    truth-agrees test m bs hs events (house_states (changed m bs hs)) (house_states m) s agree (suc MAX_DEPTH)
    (variant.Gate gate) pass
target-agrees test m bs hs events s (of_sequence initiating sequence paths) long agree pass =
    any-agrees test (met_on m (house_states m)) _ _
    (λ path h. path-agrees test m bs hs events s path (house_states (changed m bs hs)) (house_states m) long agree h)
    paths pass
