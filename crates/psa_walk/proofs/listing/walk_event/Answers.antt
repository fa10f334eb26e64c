use Rattle.std.proofs.Common.{◌≡◌, ◌++◌, [], ℕ, List, Option, Some, sym, ap, ap₂, ◌∙◌, subst}
use Rattle.std.specs.List.{slice_get}
use Rattle.psa_model.specs.declared.fault.ModelFault.{ModelFault}
use Rattle.psa_model.specs.declared.ids.TreeId.{TreeId}
use Rattle.psa_model.specs.declared.model.EventTree.{EventTree}
use Rattle.psa_model.specs.declared.model.Initiating.{Initiating}
use Rattle.psa_model.specs.declared.model.Model.{Model}
use Rattle.psa_model.specs.declared.model.TheConstants.{MAX_DEPTH}
use Rattle.psa_walk.specs.declared.listing.WalkError.{WalkError}
use Rattle.psa_walk.specs.declared.listing.WalkError.TheVariants.{Fault, Memory}
use Rattle.psa_model.specs.PathTargets.{sequence_targets}
use Rattle.psa_model.specs.Paths.{Arrived, Travelled, Arrival, arrivals, arrivals_from, tree_of, paths_of}
use Rattle.psa_model.specs.declared.limits.TheConstants.{MAX_INSTRUCTIONS}
use Rattle.psa_walk.specs.Walks.{GatheredPaths, gather}
use Rattle.psa_walk.specs.Answers.{Tells, Fails, GoesOn}
use Rattle.psa_walk.proofs.FirstFaultLemmas.{gather-arrived, gather-goes_on, gather-long, gather-many}
use Rattle.psa_walk.proofs.listing.walk_event.Goals as goal

tells-weaker : (e : WalkError) (P Q : ModelFault → Type 0) → ((f : ModelFault) → P f → Q f) → Tells e P → Tells e Q
tells-weaker (Fault f) P Q more h = more f h
tells-weaker Memory P Q more h = tt

paths-are : (model : Model) (place : ℕ) (i : Initiating) (t : TreeId) (e : EventTree) (travelled : Travelled) → i.tree ≡ Some t → slice_get model.event_trees t.0 ≡ Some e → travelled ≡ record { steps = []; forks = [] } → paths_of model place i ≡ arrivals MAX_DEPTH model place MAX_INSTRUCTIONS e.start travelled
paths-are model place i t e travelled has stands new =
    ap (λ (o : Option EventTree). arrivals_from o (λ tree. arrivals MAX_DEPTH model place MAX_INSTRUCTIONS tree.start (record { steps = []; forks = [] }))) (ap (tree_of model) has ∙ stands)
    ∙ ap (λ (a : Travelled). arrivals MAX_DEPTH model place MAX_INSTRUCTIONS e.start a) (sym new)

pub returns-in-Err-LongPath-clause-fails : goal.returns-in-Err-LongPath-clause-fails
returns-in-Err-LongPath-clause-fails c =
    let a = c.args in
    let stands = ap (λ ts. slice_get ts c.in-Some.tree.0) (sym c.as_slice.ensures) ∙ sym c.in-Some-at.ensures in
    let paths = paths-are a.model.now a.place a.initiating.now c.in-Some.tree c.in-Some-at.tree.now c.new-travelled.result c.in-Some.is stands c.new-travelled.ensures in
    let h = rw c.in-Err-LongPath.field-0-is at c.in-Err-LongPath.ensures.gathered in
    tells-weaker c.fault.result _ _
    (λ f e. subst (λ (g : ModelFault). Fails a.left a.initiating.now (paths_of a.model.now a.place a.initiating.now) g) (sym e)
    (gather-long a.initiating.now (paths_of a.model.now a.place a.initiating.now) a.left [] (ap₂ (λ (xs : List Arrival) (g : GatheredPaths). gather xs g) paths (sym c.new-gathered.ensures) ∙ h))) c.fault.ensures

pub returns-in-Err-TooManyPaths-clause-fails : goal.returns-in-Err-TooManyPaths-clause-fails
returns-in-Err-TooManyPaths-clause-fails c =
    let a = c.args in
    let stands = ap (λ ts. slice_get ts c.in-Some.tree.0) (sym c.as_slice.ensures) ∙ sym c.in-Some-at.ensures in
    let paths = paths-are a.model.now a.place a.initiating.now c.in-Some.tree c.in-Some-at.tree.now c.new-travelled.result c.in-Some.is stands c.new-travelled.ensures in
    let h = rw c.in-Err-TooManyPaths.field-0-is at c.in-Err-TooManyPaths.ensures.gathered in
    tells-weaker c.fault-in-Err-TooManyPaths.result _ _
    (λ f e. subst (λ (g : ModelFault). Fails a.left a.initiating.now (paths_of a.model.now a.place a.initiating.now) g) (sym e)
    (gather-many a.initiating.now (paths_of a.model.now a.place a.initiating.now) a.left [] (ap₂ (λ (xs : List Arrival) (g : GatheredPaths). gather xs g) paths (sym c.new-gathered.ensures) ∙ h))) c.fault-in-Err-TooManyPaths.ensures

pub returns-clause-listed : goal.returns-clause-listed
returns-clause-listed c =
    let a = c.args in
    let stands = ap (λ ts. slice_get ts c.in-Some.tree.0) (sym c.as_slice.ensures) ∙ sym c.in-Some-at.ensures in
    let paths = paths-are a.model.now a.place a.initiating.now c.in-Some.tree c.in-Some-at.tree.now c.new-travelled.result c.in-Some.is stands c.new-travelled.ensures in
    let all = gather-arrived (paths_of a.model.now a.place a.initiating.now) a.left c.walk_branch.new.gathered.left [] c.walk_branch.new.gathered.arrived (ap₂ (λ (xs : List Arrival) (g : GatheredPaths). gather xs g) paths (sym c.new-gathered.ensures) ∙ c.in-Ok.ensures.gathered) in
    c.in_ok-list_sequences.ensures ∙ ap (λ (xs : List Arrived). a.targets.now ++ sequence_targets a.place xs) (c.into_arrived.ensures ∙ all)

pub returns-clause-goes_on : goal.returns-clause-goes_on
returns-clause-goes_on c =
    let a = c.args in
    let stands = ap (λ ts. slice_get ts c.in-Some.tree.0) (sym c.as_slice.ensures) ∙ sym c.in-Some-at.ensures in
    let paths = paths-are a.model.now a.place a.initiating.now c.in-Some.tree c.in-Some-at.tree.now c.new-travelled.result c.in-Some.is stands c.new-travelled.ensures in
    subst (λ (n : ℕ). GoesOn a.left n a.initiating.now (paths_of a.model.now a.place a.initiating.now)) (sym c.left-rest.ensures)
    (gather-goes_on a.initiating.now (paths_of a.model.now a.place a.initiating.now) a.left c.walk_branch.new.gathered.left [] c.walk_branch.new.gathered.arrived (ap₂ (λ (xs : List Arrival) (g : GatheredPaths). gather xs g) paths (sym c.new-gathered.ensures) ∙ c.in-Ok.ensures.gathered))
