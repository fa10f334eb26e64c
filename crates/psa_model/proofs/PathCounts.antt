-- Where no fault is found, so many paths arrived and no more, and there is no mark.
use Rattle.std.proofs.Common.{◌≡◌, ◌≤◌, ◌-◌, ◌==◌, ℕ, Bool, true, false, List, [], ◌∷◌, ◌++◌, Option, None, Some, length, if◌then◌else◌, refl, sym, ap, ◌∙◌, subst, append-nil, arith}
use Rattle.std.proofs.lemmas.List.Elements.{All-from_recursion}
use Rattle.std.proofs.lemmas.Bool.Decides.{nat_tests}
use Rattle.std.specs.List.{All, AllByRecursion}
use Rattle.psa_model.specs.declared.fault.ModelFault.{ModelFault}
use Rattle.psa_model.specs.declared.limits.TheConstants.{MAX_PATHS}
use Rattle.psa_model.specs.declared.model.Initiating.{Initiating}
use Rattle.psa_model.specs.declared.model.Model.{Model}
use Rattle.psa_model.specs.declared.targets.Target.{Target}
use Rattle.psa_model.specs.Paths.{Arrival, too_long, arrives, HasArrived}
use Rattle.psa_model.specs.PathFaults.{joined_paths, fault_or, first_fault, walk_fault}
use Rattle.psa_model.specs.PathTargets.{all_sequences, targets_of}
use Rattle.psa_model.specs.Targets.{top_targets}

none-left : (b : Bool) (found : ModelFault) (later : Option ModelFault) → (if b then Some found else later) ≡ None → (b ≡ false) × (later ≡ None)
none-left true found later h = absurd (cc)
none-left false found later h = (refl, h)

some-left : (left : ℕ) → (left == 0) ≡ false → 1 ≤ left
some-left left h = grind (arith, nat_tests)

-- so many paths at most, each of which arrived
abbrev pub Counted : ℕ → List (Initiating × Arrival) → Type 0
Counted left all = (length all ≤ left) × AllByRecursion (λ one. HasArrived one.1) all

count-step : (left : ℕ) (one : Initiating × Arrival) (more : List (Initiating × Arrival)) (arrival : Arrival) → one.1 ≡ arrival → (first_fault (left - 1) more ≡ None → Counted (left - 1) more) → fault_or left one.0 arrival (λ rest. first_fault rest more) ≡ None → Counted left (one ∷ more)
count-step left one more too_long is later h = absurd (cc)
count-step left one more (arrives a) is later h =
    let parts = none-left (left == 0) _ (first_fault (left - 1) more) h in
    let counted = later parts.1 in
    let some : 1 ≤ left = some-left left parts.0 in
    (omega (arith, counted.0, some), (subst (λ (x : Arrival). HasArrived x) (sym is) tt, counted.1))

count-faultless : (left : ℕ) (all : List (Initiating × Arrival)) → first_fault left all ≡ None → Counted left all
count-faultless left [] h = (omega arith, tt)
count-faultless left (one ∷ more) h =
    count-step left one more one.1 refl (λ k. count-faultless (left - 1) more k) h

-- where no fault is found, there are no more paths than may be
pub few-paths : (model : Model) → walk_fault model ≡ None → length (joined_paths model 0 model.initiatings) ≤ MAX_PATHS
few-paths model h = (count-faultless MAX_PATHS (joined_paths model 0 model.initiatings) h).0

-- where no fault is found, each path arrived
pub all-arrived : (model : Model) → walk_fault model ≡ None → All (λ one. HasArrived one.1) (joined_paths model 0 model.initiatings)
all-arrived model h =
    All-from_recursion (λ (one : Initiating × Arrival). HasArrived one.1) (joined_paths model 0 model.initiatings)
    (count-faultless MAX_PATHS (joined_paths model 0 model.initiatings) h).1

-- a model without initiating events has its top events alone
sequences-none : (model : Model) (initiatings : List Initiating) → initiatings ≡ [] → all_sequences model 0 initiatings ≡ []
sequences-none model initiatings h = ap (all_sequences model 0) h

-- without initiating events, the targets are the top events
pub targets-alone : (model : Model) → model.initiatings ≡ [] → targets_of model ≡ top_targets model
targets-alone model h =
    ap (λ (more : List Target). top_targets model ++ more) (sequences-none model model.initiatings h) ∙ append-nil (top_targets model)

-- without initiating events, no walk has a fault
pub no-walk-fault : (model : Model) → model.initiatings ≡ [] → walk_fault model ≡ None
no-walk-fault model h = ap (λ (initiatings : List Initiating). first_fault MAX_PATHS (joined_paths model 0 initiatings)) h
