-- More levels of branches than are enough change no path.
use Rattle.std.proofs.Common.{◌≡◌, ◌==◌, ◌-◌, ℕ, zero, suc, Bool, true, List, [], ◌∷◌, ◌++◌, Option, None, Some, if◌then◌else◌, refl, ap, ap₂}
use Rattle.std.proofs.lemmas.Bool.{false≢true, and_parts}
use Rattle.std.specs.List.{slice_get, list_all}
use Rattle.psa_model.specs.declared.ids.SequenceId.{SequenceId}
use Rattle.psa_model.specs.declared.ids.TreeId.{TreeId}
use Rattle.psa_model.specs.declared.model.EventTree.{EventTree}
use Rattle.psa_model.specs.declared.model.Functional.{Functional}
use Rattle.psa_model.specs.declared.model.Model.{Model}
use Rattle.psa_model.specs.declared.walks.Branch.{Branch}
use Rattle.psa_model.specs.declared.walks.BranchEnd.{BranchEnd}
use Rattle.psa_model.specs.declared.walks.BranchEnd.TheOpen.{BranchEnd-F}
use Rattle.psa_model.specs.declared.walks.BranchEnd.TheViews.{out-BranchEnd}
use Rattle.psa_model.specs.declared.walks.ForkPath.{ForkPath}
use Rattle.psa_model.specs.Paths.{Travelled, Arrival, too_long, Carried, carried, after_instructions, Below, arrivals_from, linked_arrivals, link_arrivals, sequence_arrivals, with_fork, fork_arrivals, end_arrivals, arrivals}
use Rattle.psa_model.specs.PathLevels.{passes_there, link_within, end_within, branch_within}

after-same : (outcome : Option Carried) (f g : ℕ → Travelled → List Arrival) → ((l : ℕ) (a : Travelled) → f l a ≡ g l a) → after_instructions outcome f ≡ after_instructions outcome g
after-same None f g same = refl
after-same (Some c) f g same = same c.left c.along

there-same : {A : Type 0} (found : Option A) (test : A → Bool) (f g : A → List Arrival) → ((a : A) → test a ≡ true → f a ≡ g a) → passes_there found test ≡ true → arrivals_from found f ≡ arrivals_from found g
there-same None test f g same h = refl
there-same (Some a) test f g same h = same a h

module _ (model : Model) (initiating : ℕ) (test : Branch → Bool) (f g : Below) (same : (left : ℕ) (branch : Branch) (along : Travelled) → test branch ≡ true → f left branch along ≡ g left branch along) where
  forked-same : (left : ℕ) (along : Travelled) (functional : Functional) (paths : List ForkPath) → list_all (λ path. test path.branch) paths ≡ true → fork_arrivals f left along paths functional ≡ fork_arrivals g left along paths functional
  forked-same left along functional [] h = refl
  forked-same left along functional (path ∷ paths) h =
      let p = and_parts (test path.branch) (list_all (λ path. test path.branch) paths) h in
      ap₂ (λ (x y : List Arrival). x ++ y) (same left path.branch (with_fork along functional path) p.0) (forked-same left along functional paths p.1)

  linked-same : (found : Option EventTree) (left : ℕ) (along : Travelled) → passes_there found (λ t. test t.start) ≡ true → linked_arrivals f found left along ≡ linked_arrivals g found left along
  linked-same found left along h =
      ap (λ (l : List Arrival). if left == 0 then too_long ∷ [] else l)
      (there-same found (λ t. test t.start) (λ t. f (left - 1) t.start along) (λ t. g (left - 1) t.start along) (λ t k. same (left - 1) t.start along k) h)

  ended-same : (id : SequenceId) (link : Option TreeId) (left : ℕ) (along : Travelled) → link_within model test link ≡ true → link_arrivals model f id link left along ≡ link_arrivals model g id link left along
  ended-same id None left along h = refl
  ended-same id (Some tree) left along h = linked-same (slice_get model.event_trees tree.0) left along h

  onward-same : (left : ℕ) (along : Travelled) (end : BranchEnd-F BranchEnd Branch ForkPath) → end_within model test end ≡ true → end_arrivals model initiating f left along end ≡ end_arrivals model initiating g left along end
  onward-same left along (BranchEnd-F.Fork functional paths) h =
      there-same (slice_get model.functionals functional.0) (λ e. list_all (λ path. test path.branch) paths) (λ e. fork_arrivals f left along paths e) (λ e. fork_arrivals g left along paths e)
      (λ e k. forked-same left along e paths k) h
  onward-same left along (BranchEnd-F.Sequence id) h =
      there-same (slice_get model.sequences id.0) (λ s. link_within model test s.link) (λ s. sequence_arrivals model initiating f id left along s) (λ s. sequence_arrivals model initiating g id left along s)
      (λ s k. after-same (carried left model initiating s.instructions along) _ _ (λ l a. ended-same id s.link l a k)) h
  onward-same left along (BranchEnd-F.Branch id) h =
      there-same (slice_get model.branches id.0) (λ named. test named.branch) (λ named. f left named.branch along) (λ named. g left named.branch along)
      (λ named k. same left named.branch along k) h

-- a level more
pub more-levels : (levels : ℕ) (model : Model) (initiating left : ℕ) (branch : Branch) (along : Travelled) → branch_within levels model branch ≡ true → arrivals (suc levels) model initiating left branch along ≡ arrivals levels model initiating left branch along
unfolding arrivals branch_within
more-levels zero model initiating left branch along h = absurd (false≢true h)
more-levels (suc levels) model initiating left branch along h =
    after-same (carried left model initiating branch.instructions along) _ _
    (λ l a. onward-same model initiating (λ b. branch_within levels model b) (λ m b c. arrivals (suc levels) model initiating m b c) (λ m b c. arrivals levels model initiating m b c)
    (λ m b c k. more-levels levels model initiating m b c k) l a (out-BranchEnd branch.end) h)
