-- The parts of a target: the truths that its graph and its diagrams are made of. A truth is a function of the ranks
-- that occur. This project's own.
use Rattle.std.specs.Prelude.{◌≡◌, ℕ, suc, ◌-◌, ◌<◌, Bool, List, [], ◌∷◌, Some, map, take, drop, length, nat_le, not, ◌&&◌, ◌||◌}
use Rattle.std.specs.List.{slice_get, list_all, list_any}
use Rattle.psa_logic.specs.Products.{literal_number, holds_at}
use Rattle.psa_model.specs.declared.expanded.Expanded.{Expanded}
use Rattle.psa_model.specs.declared.formula.Connective.{Connective}
use Rattle.psa_model.specs.declared.formula.Formula.{Formula}
use Rattle.psa_model.specs.declared.formula.Formula.TheVariants as variant
use Rattle.psa_model.specs.declared.ids.EventId.{EventId}
use Rattle.psa_model.specs.declared.ids.GateId.{GateId}
use Rattle.psa_model.specs.declared.ids.InitiatingId.{InitiatingId}
use Rattle.psa_model.specs.declared.ids.SequenceId.{SequenceId}
use Rattle.psa_model.specs.declared.model.TheConstants.{MAX_DEPTH}
use Rattle.psa_model.specs.declared.model.Gate.{Gate}
use Rattle.psa_model.specs.declared.targets.PathStep.{PathStep}
use Rattle.psa_model.specs.declared.targets.Target.{Target}
use Rattle.psa_model.specs.declared.targets.Target.TheVariants.{TopEvent, Sequence}
use Rattle.psa_model.specs.Events.{events_of}
use Rattle.psa_model.specs.Formulas.{count_true}
use Rattle.psa_model.specs.Ranks.{ranks_of}
use Rattle.psa_model.specs.Targets.{Collected, collected, occurs_by_rank}
use Rattle.psa_model.specs.Truth.{truth, house_states}

-- a truth: of which sets of events it is true
abbrev pub Truth : Type 0
Truth = (ℕ → Bool) → Bool

-- those from place i up to, and without, place j
abbrev pub between : {A : Type 0} → ℕ → ℕ → List A → List A
between i j xs = take (j - i) (drop i xs)

-- what a path collected, under the model's house states and those set before on the path
abbrev pub collected_on : Expanded → List PathStep → List Collected
collected_on expanded path = collected expanded.model (house_states expanded.model) path

-- The house states and formulas that the unfolding of a target meets: the top event's gate or what a path
-- collected, the formula of each gate met, and the arguments of each connective met.
pub data Meets (expanded : Expanded) : Target → List Bool → Formula → Type 0 where
  top : (gate : GateId) → Meets expanded (TopEvent gate) (house_states expanded.model) (variant.Gate gate)
  on_path :
      (initiating : InitiatingId) (sequence : SequenceId) (paths : List (List PathStep))
      (place : ℕ) (path : List PathStep) (at : ℕ) (one : Collected)
      → slice_get paths place ≡ Some path
      → slice_get (collected_on expanded path) at ≡ Some one
      → Meets expanded (Sequence initiating sequence paths) one.houses one.formula
  in_gate :
      (target : Target) (houses : List Bool) (id : GateId) (gate : Gate)
      → Meets expanded target houses (variant.Gate id)
      → slice_get expanded.model.gates id.0 ≡ Some gate
      → Meets expanded target houses gate.formula
  argument :
      (target : Target) (houses : List Bool) (operator : Connective) (least most : ℕ) (arguments : List Formula)
      (place : ℕ) (one : Formula)
      → Meets expanded target houses (variant.Connective operator least most arguments)
      → slice_get arguments place ≡ Some one
      → Meets expanded target houses one

-- the truth of a formula over the ranks of a target
abbrev pub truth_over : Expanded → Target → List Bool → Formula → Truth
truth_over expanded target houses f s =
    truth (suc MAX_DEPTH) expanded houses (occurs_by_rank s 0 (ranks_of expanded target)) f

-- all of some collected formulas are true, each under its house states
abbrev pub all_true : Expanded → Target → List Collected → Truth
all_true expanded target pairs s = list_all (λ one. truth_over expanded target one.houses one.formula s) pairs

-- The truths that a target is made of: the constants; the literals of its ranks; the formulas met; of a connective met,
-- at least so many of the arguments from one place to another; of a basic event met, some of its expanded events from
-- one place to another; of a sequence, all that a path collected from one place to another, and some of the paths
-- from one place to another; and the opposite of each.
pub data IsSimplePart (expanded : Expanded) : Target → Truth → Type 0 where
  constant : (target : Target) (b : Bool) → IsSimplePart expanded target (λ s. b)
  literal :
      (target : Target) (rank : ℕ) (occurring : Bool)
      → rank < length (ranks_of expanded target)
      → IsSimplePart expanded target (λ s. holds_at s (literal_number rank occurring ∷ []))
  formula :
      (target : Target) (houses : List Bool) (f : Formula)
      → Meets expanded target houses f
      → IsSimplePart expanded target (truth_over expanded target houses f)
  at_least :
      (target : Target) (houses : List Bool) (operator : Connective) (least most : ℕ) (arguments : List Formula)
      (k i j : ℕ)
      → Meets expanded target houses (variant.Connective operator least most arguments)
      → IsSimplePart expanded target
      (λ s. nat_le k (count_true (map (λ f. truth_over expanded target houses f s) (between i j arguments))))
  some_event :
      (target : Target) (houses : List Bool) (id : EventId) (i j : ℕ)
      → Meets expanded target houses (variant.Basic id)
      → IsSimplePart expanded target
      (λ s. list_any (occurs_by_rank s 0 (ranks_of expanded target)) (between i j (events_of expanded id.0)))
  all_pairs :
      (initiating : InitiatingId) (sequence : SequenceId) (paths : List (List PathStep))
      (place : ℕ) (path : List PathStep) (i j : ℕ)
      → slice_get paths place ≡ Some path
      → IsSimplePart expanded (Sequence initiating sequence paths)
      (all_true expanded (Sequence initiating sequence paths) (between i j (collected_on expanded path)))
  some_path :
      (initiating : InitiatingId) (sequence : SequenceId) (paths : List (List PathStep)) (i j : ℕ)
      → IsSimplePart expanded (Sequence initiating sequence paths)
      (λ s. list_any
      (λ path. all_true expanded (Sequence initiating sequence paths) (collected_on expanded path) s) (between i j paths))
  opposite :
      (target : Target) (f : Truth)
      → IsSimplePart expanded target f
      → IsSimplePart expanded target (λ s. not (f s))

-- a part: such a truth, or the conjunction or disjunction of two
pub data IsPartOf (expanded : Expanded) (target : Target) : Truth → Type 0 where
  one : (f : Truth) → IsSimplePart expanded target f → IsPartOf expanded target f
  both :
      (f g : Truth) → IsSimplePart expanded target f → IsSimplePart expanded target g
      → IsPartOf expanded target (λ s. f s && g s)
  either :
      (f g : Truth) → IsSimplePart expanded target f → IsSimplePart expanded target g
      → IsPartOf expanded target (λ s. f s || g s)

-- a truth that is the same at each set of ranks as one of the parts
pub record IsPart (expanded : Expanded) (target : Target) (f : Truth) : Type 0 where
  pub part : Truth
  pub is_part : IsPartOf expanded target part
  pub same : (s : ℕ → Bool) → f s ≡ part s
