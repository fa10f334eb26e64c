-- The steps of the walk of branches.
use Rattle.std.specs.Prelude.{⊤}
use Rattle.std.proofs.Common.{◌≡◌, ◌<◌, ◌≤◌, ◌-◌, ◌+◌, ℕ, List, [], ◌∷◌, ◌++◌, Option, Result, Ok, Err, take, drop, length, get_or, length-append, refl, sym, ap, ◌∙◌, arith}
use Rattle.std.proofs.Math.Seq.{take-append_seam}
use Rattle.std.proofs.lemmas.List.{drop_more, drop_all}
use Rattle.std.proofs.lemmas.Bool.{eq-eqb, ne_eqb}
use Rattle.psa_model.specs.declared.ids.SequenceId.{SequenceId}
use Rattle.psa_model.specs.declared.ids.TreeId.{TreeId}
use Rattle.psa_model.specs.declared.model.EventTree.{EventTree}
use Rattle.psa_model.specs.declared.model.Functional.{Functional}
use Rattle.psa_model.specs.declared.model.Model.{Model}
use Rattle.psa_model.specs.declared.model.Sequence.{Sequence}
use Rattle.psa_model.specs.declared.walks.Branch.{Branch}
use Rattle.psa_model.specs.declared.walks.BranchEnd.TheViews.{out-BranchEnd}
use Rattle.psa_model.specs.declared.walks.ForkPath.{ForkPath}
use Rattle.psa_model.specs.declared.walks.Instruction.{Instruction}
use Rattle.psa_walk.specs.declared.walk.Stop.{Stop}
use Rattle.psa_walk.specs.declared.walk.Stop.TheVariants as stop
use Rattle.psa_model.specs.Paths.{Travelled, Arrival, too_long, carried, after_instructions, Below, arrivals_from, with_fork, linked_arrivals, link_arrivals, sequence_arrivals, fork_arrivals, end_arrivals, arrivals, below}
use Rattle.psa_model.specs.Tests.{Fork}
use Rattle.psa_walk.specs.Walks.{GatheredPaths, Carries, gather, Gathers}
use Rattle.psa_walk.proofs.CarriedInstructionLemmas.{carried-extends, goes-back}
use Rattle.psa_walk.proofs.GatheredPathLemmas.{gather-then, gathers-stop, after-carried, after-stopped, gathers-as, arrivals-one}

-- a branch: its instructions, and then its end
module _ (levels : ℕ) (model : Model) (initiating left : ℕ) (branch : Branch) (along : Travelled) (slice : List Instruction) (same : slice ≡ branch.instructions) (some : 0 < levels) where
  its_paths : arrivals levels model initiating left branch along ≡ after_instructions (carried left model initiating slice along) (λ l a. end_arrivals model initiating (below (levels - 1) model initiating) l a (out-BranchEnd branch.end))
  its_paths =
      arrivals-one levels model initiating left branch along some
      ∙ ap (λ (is : List Instruction). after_instructions (carried left model initiating is along) (λ l a. end_arrivals model initiating (below (levels - 1) model initiating) l a (out-BranchEnd branch.end))) (sym same)

  -- what its end gathers after its instructions is what the branch gathers
  pub branch-gathers : (rest : ℕ) (now : Travelled) (a c : GatheredPaths) (r : Result ⊤ Stop) → Carries (carried left model initiating slice along) (Ok rest) now
      → Gathers (end_arrivals model initiating (below (levels - 1) model initiating) rest now (out-BranchEnd branch.end)) a r c → Gathers (arrivals levels model initiating left branch along) a r c
  branch-gathers rest now a c r h f =
      gathers-as _ _ a c r (its_paths ∙ after-carried (carried left model initiating slice along) rest now _ h) f

  -- and where its instructions stop, the branch stops
  pub branch-stops : (now : Travelled) (a c : GatheredPaths) (e : Stop) → Carries (carried left model initiating slice along) (Err e) now → Gathers (arrivals levels model initiating left branch along) a (Err e) c
  branch-stops now a c e h = gathers-as _ _ a c (Err e) its_paths (after-stopped (carried left model initiating slice along) now _ a c e h)

-- the steps of what was carried out are taken back
pub carried-back : (left : ℕ) (model : Model) (initiating : ℕ) (slice : List Instruction) (along : Travelled) (rest : ℕ) (now later : Travelled) → Carries (carried left model initiating slice along) (Ok rest) now → later ≡ now → record later { steps = take (length along.steps) later.steps } ≡ along
carried-back left model initiating slice along rest now later h e =
    ap (λ (a : Travelled). record a { steps = take (length along.steps) a.steps }) e
    ∙ goes-back along now (carried-extends left model initiating rest now slice along h)

-- a sequence: its instructions, and then its link
module _ (model : Model) (initiating : ℕ) (b : Below) (id : SequenceId) (left : ℕ) (along : Travelled) (sequence : Sequence) (slice : List Instruction) (same : slice ≡ sequence.instructions) where
  its_end : sequence_arrivals model initiating b id left along sequence ≡ after_instructions (carried left model initiating slice along) (λ l a. link_arrivals model b id sequence.link l a)
  its_end = ap (λ (is : List Instruction). after_instructions (carried left model initiating is along) (λ l a. link_arrivals model b id sequence.link l a)) (sym same)

  -- what its link gathers after its instructions is what the sequence gathers
  pub sequence-gathers : (rest : ℕ) (now : Travelled) (a c : GatheredPaths) (r : Result ⊤ Stop) (link : Option TreeId) → sequence.link ≡ link → Carries (carried left model initiating slice along) (Ok rest) now
      → Gathers (link_arrivals model b id link rest now) a r c → Gathers (sequence_arrivals model initiating b id left along sequence) a r c
  sequence-gathers rest now a c r link is h f =
      gathers-as _ _ a c r (its_end ∙ after-carried (carried left model initiating slice along) rest now _ h ∙ ap (λ (l : Option TreeId). link_arrivals model b id l rest now) is) f

  -- and where its instructions stop, the sequence stops
  pub sequence-stops : (now : Travelled) (a c : GatheredPaths) (e : Stop) → Carries (carried left model initiating slice along) (Err e) now → Gathers (sequence_arrivals model initiating b id left along sequence) a (Err e) c
  sequence-stops now a c e h = gathers-as _ _ a c (Err e) its_end (after-stopped (carried left model initiating slice along) now _ a c e h)

-- a link
pub linked-none : (b : Below) (tree : Option EventTree) (left : ℕ) (along : Travelled) → left ≡ 0 → linked_arrivals b tree left along ≡ too_long ∷ []
linked-none b tree left along e = rw (eq-eqb left 0 e) refl

-- a link where an instruction may still be carried out
pub linked-some : (b : Below) (tree : Option EventTree) (left : ℕ) (along : Travelled) → (left ≡ 0 → ⊥) → linked_arrivals b tree left along ≡ arrivals_from tree (λ t. b (left - 1) t.start along)
linked-some b tree left along ne = rw (ne_eqb left 0 ne) refl

-- the paths of a fork
fork-rest : (b : Below) (left : ℕ) (along : Travelled) (functional : Functional) (xs : List ForkPath) (k : ℕ) (x : ForkPath) → k < length xs → x ≡ get_or xs k x
    → fork_arrivals b left along (drop k xs) functional ≡ b left x.branch (with_fork along functional x) ++ fork_arrivals b left along (drop (k + 1) xs) functional
fork-rest b left along functional xs k x lt is =
    ap (λ (ps : List ForkPath). fork_arrivals b left along ps functional) (drop_more xs k x lt ∙ ap (λ (y : ForkPath). y ∷ drop (k + 1) xs) (sym is))

module _ (b : Below) (left : ℕ) (along : Travelled) (functional : Functional) (xs : List ForkPath) (k : ℕ) (x : ForkPath) (lt : k < length xs) (is : x ≡ get_or xs k x) (taken : Travelled) (taken_is : taken ≡ with_fork along functional x)
    (first before : GatheredPaths) (so : gather (fork_arrivals b left along (drop k xs) functional) before ≡ gather (fork_arrivals b left along xs functional) first) where
  as-taken : b left x.branch taken ≡ b left x.branch (with_fork along functional x)
  as-taken = ap (λ (a : Travelled). b left x.branch a) taken_is

  -- one path more of the fork was gathered
  pub fork-more : (now : GatheredPaths) → gather (b left x.branch taken) before ≡ Ok now → gather (fork_arrivals b left along (drop (k + 1) xs) functional) now ≡ gather (fork_arrivals b left along xs functional) first
  fork-more now h =
      sym (gather-then (b left x.branch (with_fork along functional x)) (fork_arrivals b left along (drop (k + 1) xs) functional) before now (ap (λ (l : List Arrival). gather l before) (sym as-taken) ∙ h))
      ∙ ap (λ (l : List Arrival). gather l before) (sym (fork-rest b left along functional xs k x lt is)) ∙ so

  whole-as : (now : GatheredPaths) (r : Result ⊤ Stop) → Gathers (fork_arrivals b left along (drop k xs) functional) before r now → Gathers (fork_arrivals b left along xs functional) first r now
  whole-as now (Ok u) h = sym so ∙ h
  whole-as now (Err stop.LongPath) h = sym so ∙ h
  whole-as now (Err stop.TooManyPaths) h = sym so ∙ h
  whole-as now (Err stop.Memory) h = tt

  -- or the walk stops in one path, and so at the fork
  pub fork-stops : (now : GatheredPaths) (e : Stop) → Gathers (b left x.branch taken) before (Err e) now → Gathers (fork_arrivals b left along xs functional) first (Err e) now
  fork-stops now e h =
      whole-as now (Err e) (gathers-as _ _ before now (Err e) (fork-rest b left along functional xs k x lt is)
      (gathers-stop (b left x.branch (with_fork along functional x)) (fork_arrivals b left along (drop (k + 1) xs) functional) before now now e (gathers-as _ _ before now (Err e) (sym as-taken) h)))

-- behind the last path all of the fork is gathered
pub fork-end : (b : Below) (left : ℕ) (along : Travelled) (functional : Functional) (xs : List ForkPath) (k : ℕ) (first now : GatheredPaths) → gather (fork_arrivals b left along (drop k xs) functional) now ≡ gather (fork_arrivals b left along xs functional) first → length xs ≤ k → gather (fork_arrivals b left along xs functional) first ≡ Ok now
fork-end b left along functional xs k first now so le =
    sym so ∙ ap (λ (ps : List ForkPath). gather (fork_arrivals b left along ps functional) now) (drop_all k xs le)

-- the fork is left
without-last : (xs : List Fork) (x : Fork) → take (length (xs ++ x ∷ []) - 1) (xs ++ x ∷ []) ≡ xs
without-last xs x =
    let n : length (xs ++ x ∷ []) - 1 ≡ length xs = rw length-append (omega arith) in
    ap (λ k. take k (xs ++ x ∷ [])) n ∙ take-append_seam xs (x ∷ [])

-- without its last fork, what goes along is as before the fork
pub fork-left : (along taken later : Travelled) (functional : Functional) (path : ForkPath) → taken ≡ with_fork along functional path → later ≡ taken → record later { forks = take (length later.forks - 1) later.forks } ≡ along
fork-left along taken later functional path taken_is e =
    ap (λ (a : Travelled). record a { forks = take (length a.forks - 1) a.forks }) (e ∙ taken_is)
    ∙ ap (λ (fs : List Fork). record along { forks = fs }) (without-last along.forks (record { name = functional.name; state = path.state }))
