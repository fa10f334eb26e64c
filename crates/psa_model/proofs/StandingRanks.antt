-- The ranks of each target are numbers of expanded events, and the literals of its products have ranks among them.
use Rattle.std.proofs.Common.{◌≡◌, ◌==◌, inl, inr, ℕ, zero, suc, ◌+◌, ◌≤◌, Bool, true, false, not, ◌&&◌, cond, if◌then◌else◌, List, [], ◌∷◌, ◌++◌, length, Option, Some, None, refl, ◌∙◌, arith}
use Rattle.std.specs.Prelude.{nat_lt}
use Rattle.std.proofs.lemmas.Bool.{and_parts, lt-ltb}
use Rattle.std.proofs.lemmas.List.Folds.{list_all-append, list_all-map}
use Rattle.std.specs.List.{list_all, filter, flat_map, slice_get}
use Rattle.psa_logic.specs.Products.{rank_of}
use Rattle.psa_logic.specs.Sets.{Has}
use Rattle.psa_model.specs.declared.formula.Formula.{Formula}
use Rattle.psa_model.specs.declared.formula.Formula.TheOpen.{Formula-F}
use Rattle.psa_model.specs.declared.formula.Formula.TheViews.{out-Formula}
use Rattle.psa_model.specs.declared.formula.Formula.TheVariants as variant
use Rattle.psa_model.specs.declared.ids.EventNumber.{EventNumber}
use Rattle.psa_model.specs.declared.model.Gate.{Gate}
use Rattle.psa_model.specs.declared.model.TheConstants.{MAX_DEPTH}
use Rattle.psa_model.specs.declared.expanded.Expanded.{Expanded}
use Rattle.psa_model.specs.declared.targets.Target.{Target}
use Rattle.psa_model.specs.declared.targets.Target.TheVariants.{TopEvent, Sequence}
use Rattle.psa_model.specs.Events.{places_from}
use Rattle.psa_model.specs.Ranks.{visits, visits_layer, firsts, target_visits, ranks_of}
use Rattle.psa_model.specs.Report.{Analysis, IsProductOf}
use Rattle.psa_model.specs.Standing.{ranks_stand, literals_stand}
use Rattle.psa_model.specs.Targets.{Collected, collected}
use Rattle.psa_model.specs.Truth.{at_gate, house_states}
use Rattle.psa_model.proofs.TargetProducts.{product-has_ranks}

-- both tests, of which each gives true
pub and-both : (a b : Bool) → a ≡ true → b ≡ true → (a && b) ≡ true
and-both a b p q = rw (p, q) refl

-- what passes in two lists passes in one after the other
pub all-joined : {A : Type 0} (p : A → Bool) (xs ys : List A) → list_all p xs ≡ true → list_all p ys ≡ true → list_all p (xs ++ ys) ≡ true
all-joined p xs ys h k = list_all-append p xs ys ∙ and-both (list_all p xs) (list_all p ys) h k

-- a part of what passes passes
pub all-filtered : {A : Type 0} (p q : A → Bool) (xs : List A) → list_all p xs ≡ true → list_all p (filter q xs) ≡ true
all-filtered p q [] h = refl
all-filtered p q (x ∷ xs) h =
    let parts = and_parts (p x) (list_all p xs) h in
    elim (q x) as (λ b. list_all p (cond b (x ∷ filter q xs) (filter q xs)) ≡ true) [
      | true ↦ and-both (p x) (list_all p (filter q xs)) parts.0 (all-filtered p q xs parts.1)
      | false ↦ all-filtered p q xs parts.1
    ]

-- so do the numbers at their first places
pub all-firsts : (p : ℕ → Bool) (xs : List ℕ) → list_all p xs ≡ true → list_all p (firsts xs) ≡ true
all-firsts p [] h = refl
all-firsts p (x ∷ xs) h =
    let parts = and_parts (p x) (list_all p xs) h in
    and-both (p x) (list_all p (filter (λ y. not (y == x)) (firsts xs))) parts.0
    (all-filtered p (λ y. not (y == x)) (firsts xs) (all-firsts p xs parts.1))

-- places stand within the list
pub all-places : {A : Type 0} (test : ℕ → A → Bool) (n place : ℕ) (xs : List A) → place + length xs ≤ n → list_all (λ x. nat_lt x n) (places_from test place xs) ≡ true
all-places test n place [] fits = refl
all-places test n place (x ∷ xs) fits =
    elim (test place x) as (λ b. list_all (λ y. nat_lt y n) (if b then place ∷ places_from test (place + 1) xs else places_from test (place + 1) xs) ≡ true) [
      | true ↦ and-both (nat_lt place n) (list_all (λ y. nat_lt y n) (places_from test (place + 1) xs)) (lt-ltb place n (omega arith)) (all-places test n (place + 1) xs (omega arith))
      | false ↦ all-places test n (place + 1) xs (omega arith)
    ]

all-flat : {A : Type 0} (p : ℕ → Bool) (f : A → List ℕ) (xs : List A) → ((x : A) → list_all p (f x) ≡ true) → list_all p (flat_map f xs) ≡ true
all-flat p f [] each = refl
all-flat p f (x ∷ xs) each = all-joined p (f x) (flat_map f xs) (each x) (all-flat p f xs each)

-- what is visited are numbers of events
all-gate : (p : ℕ → Bool) (below : Formula → List ℕ) → ((f : Formula) → list_all p (below f) ≡ true) → (gate : Option Gate) → list_all p (at_gate [] below gate) ≡ true
all-gate p below each None = refl
all-gate p below each (Some gate) = each gate.formula

all-layer : (expanded : Expanded) (below : Formula → List ℕ) → ((f : Formula) → list_all (λ x. nat_lt x (length expanded.events)) (below f) ≡ true) → (layer : Formula-F Formula) → list_all (λ x. nat_lt x (length expanded.events)) (visits_layer expanded below layer) ≡ true
all-layer expanded below each (Formula-F.Gate id) = all-gate _ below each (slice_get expanded.model.gates id.0)
all-layer expanded below each (Formula-F.Basic id) = all-places _ (length expanded.events) 0 expanded.events (omega arith)
all-layer expanded below each (Formula-F.House id) = refl
all-layer expanded below each (Formula-F.Constant b) = refl
all-layer expanded below each (Formula-F.Connective operator min max arguments) = all-flat _ below arguments each

all-visits : (n : ℕ) (expanded : Expanded) (f : Formula) → list_all (λ x. nat_lt x (length expanded.events)) (visits n expanded f) ≡ true
unfolding visits
all-visits zero expanded f = refl
all-visits (suc n) expanded f = all-layer expanded (λ g. visits n expanded g) (λ g. all-visits n expanded g) (out-Formula f)

all-target : (expanded : Expanded) (target : Target) → list_all (λ x. nat_lt x (length expanded.events)) (target_visits expanded target) ≡ true
all-target expanded (TopEvent gate) = all-visits (suc MAX_DEPTH) expanded (variant.Gate gate)
all-target expanded (Sequence initiating sequence paths) =
    all-flat (λ x. nat_lt x (length expanded.events)) (λ path. flat_map (λ one. visits (suc MAX_DEPTH) expanded one.formula) (collected expanded.model (house_states expanded.model) path)) paths
    (λ path.
    all-flat (λ x. nat_lt x (length expanded.events)) (λ one. visits (suc MAX_DEPTH) expanded one.formula) (collected expanded.model (house_states expanded.model) path)
    (λ (one : Collected). all-visits (suc MAX_DEPTH) expanded one.formula))

-- whatever the model and the target
pub ranks-standing : (expanded : Expanded) (target : Target) → ranks_stand expanded (ranks_of expanded target) ≡ true
ranks-standing expanded target =
    list_all-map (λ (number : EventNumber). nat_lt number.0 (length expanded.events)) (λ (event : ℕ). record { 0 = event }) (firsts (target_visits expanded target))
    ∙ all-firsts (λ x. nat_lt x (length expanded.events)) (target_visits expanded target) (all-target expanded target)

all-has : (p : ℕ → Bool) (xs : List ℕ) → ((x : ℕ) → Has xs x → p x ≡ true) → list_all p xs ≡ true
all-has p [] each = refl
all-has p (x ∷ xs) each = and-both (p x) (list_all p xs) (each x (inl refl)) (all-has p xs (λ y has. each y (inr has)))

-- a product's ranks are below the number of the target's
pub literals-standing : (analysis : Analysis) (target : Target) (product : List ℕ) → IsProductOf analysis target product → literals_stand (ranks_of analysis.expanded target) product ≡ true
literals-standing analysis target product one =
    all-has _ product (λ literal has. lt-ltb (rank_of literal) _ (product-has_ranks analysis target product one literal has))
