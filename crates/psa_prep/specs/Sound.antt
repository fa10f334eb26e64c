-- What stays true of a graph while a target is prepared: its nodes are parts of the target, and what is remembered is
-- right.
use Rattle.std.specs.Prelude.{◌≡◌, ◌<◌, ℕ, Bool, List, Some, length, not}
use Rattle.std.specs.List.{slice_get}
use Rattle.psa_graph.specs.declared.graph.GraphNode.{GraphNode}
use Rattle.psa_graph.specs.Truths.{truth_at}
use Rattle.psa_model.specs.declared.expanded.Expanded.{Expanded}
use Rattle.psa_model.specs.declared.formula.Formula.{Formula}
use Rattle.psa_model.specs.declared.formula.Formula.TheVariants as variant
use Rattle.psa_model.specs.declared.targets.Target.{Target}
use Rattle.psa_model.specs.Parts.{Truth, IsPart, truth_over}
use Rattle.psa_model.specs.Ranks.{ranks_of}
use Rattle.psa_model.specs.Truth.{house_states}
use Rattle.psa_prep.specs.declared.builder.Builder.{Builder}
use Rattle.psa_prep.specs.declared.builder.Prepared.{Prepared}
use Rattle.psa_prep.specs.declared.builder.Prepared.TheVariants as prepared
use Rattle.psa_prep.specs.declared.pairs.Pair.{Pair}
use Rattle.psa_prep.specs.declared.pairs.Signs.{Signs}
use Rattle.psa_prep.specs.declared.states.Changes.{Changes}
use Rattle.psa_prep.specs.Nodes.{nodes_of, joins, known_of, nothing_known, IsBuilt}
use Rattle.psa_prep.specs.Pairs.{Reads}
use Rattle.psa_prep.specs.Places.{Grown}
use Rattle.psa_prep.specs.States.{houses_at}

-- what is prepared: a target, and the house states that its paths set so far
pub record World : Type 0 where
  pub expanded : Expanded
  pub target : Target
  pub changes : List Changes

abbrev pub state_houses : World → ℕ → List Bool
state_houses w number = houses_at (house_states w.expanded.model) w.changes number

-- the truth of a formula over the ranks of the target
abbrev pub formula_truth : World → List Bool → Formula → Truth
formula_truth w houses f = truth_over w.expanded w.target houses f

-- the formula of what is prepared, and the number of its house states
abbrev pub IsSubject : World → Prepared → Formula → Type 0
IsSubject w (prepared.Gate id state) f = f ≡ variant.Gate (record { 0 = id })
IsSubject w (prepared.Formula id state) f = slice_get w.expanded.model.formulas id ≡ Some f

abbrev pub state_number : Prepared → ℕ
state_number (prepared.Gate id state) = state
state_number (prepared.Formula id state) = state

-- each node's truth is a part
abbrev pub AllParts : World → List GraphNode → Type 0
AllParts w nodes = (place : ℕ) → place < length nodes → IsPart w.expanded w.target (truth_at nodes place)

-- a truth and its opposite are parts
pub record AreParts (w : World) (f : Truth) : Type 0 where
  pub itself : IsPart w.expanded w.target f
  pub opposite : IsPart w.expanded w.target (λ s. not (f s))

-- what is remembered is right
abbrev pub AllRight : World → Builder → Type 0
AllRight w builder =
    (subject : Prepared) (f : Formula) → IsSubject w subject f
    → Reads (known_of builder subject).signs (formula_truth w (state_houses w (state_number subject)) f) (nodes_of builder) (known_of builder subject).pair

-- nothing is remembered of house states to come
abbrev pub AllFresh : World → Builder → Type 0
AllFresh w builder = (subject : Prepared) → length w.changes < state_number subject → known_of builder subject ≡ nothing_known

pub record IsSound (w : World) (builder : Builder) : Type 0 where
  pub built : IsBuilt builder
  pub width : builder.width ≡ length (ranks_of w.expanded w.target)
  pub parts : AllParts w (nodes_of builder)
  pub right : AllRight w builder
  pub fresh : AllFresh w builder

-- The pair reads as the truth, for the signs that were asked for.
pub record Made (w : World) (signs : Signs) (f : Truth) (before now : Builder) (pair : Pair) : Type 0 where
  pub reads : Reads signs f (nodes_of now) pair
  pub grown : Grown (nodes_of before) (nodes_of now)
  pub sound : IsSound w now

-- in each world, the pair reads as the conjunction or disjunction of the truths as which both pairs read
abbrev pub JoinsPairs : Signs → Bool → Pair → Pair → Builder → Builder → Pair → Type 0
JoinsPairs signs both left right before now pair =
    (w : World) (f g h : Truth) → IsSound w before → Reads signs f (nodes_of before) left → Reads signs g (nodes_of before) right
    → ((s : ℕ → Bool) → h s ≡ joins both (f s) (g s)) → AreParts w h → Made w signs h before now pair
