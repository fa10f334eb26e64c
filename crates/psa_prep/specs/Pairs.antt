-- Which of a truth and its opposite are asked for, and the nodes for them.
use Rattle.std.specs.Prelude.{◌≡◌, ◌<◌, ℕ, Bool, true, false, List, length, not, ◌&&◌}
use Rattle.psa_graph.specs.declared.graph.GraphNode.{GraphNode}
use Rattle.psa_graph.specs.Truths.{truth_at}
use Rattle.psa_model.specs.Parts.{Truth}
use Rattle.psa_prep.specs.declared.pairs.Pair.{Pair}
use Rattle.psa_prep.specs.declared.pairs.Signs.{Signs}

abbrev pub swapped : Signs → Signs
swapped signs = record { yes = signs.no; no = signs.yes }

abbrev pub without : Signs → Signs → Signs
without signs others = record { yes = signs.yes && not others.yes; no = signs.no && not others.no }

abbrev pub swapped_pair : Pair → Pair
swapped_pair pair = record { yes = pair.no; no = pair.yes }

-- the places of the constants
abbrev pub constant_pair : Bool → Pair
constant_pair true = record { yes = 1; no = 0 }
constant_pair false = record { yes = 0; no = 1 }

-- both are places of the list
abbrev pub Stands : List GraphNode → Pair → Type 0
Stands nodes pair = (pair.yes < length nodes) × (pair.no < length nodes)

-- The nodes of the pair read as the truth and its opposite, each where it was asked for.
pub record Reads (signs : Signs) (f : Truth) (nodes : List GraphNode) (pair : Pair) : Type 0 where
  pub there : Stands nodes pair
  pub as_yes : signs.yes ≡ true → (s : ℕ → Bool) → truth_at nodes pair.yes s ≡ f s
  pub as_no : signs.no ≡ true → (s : ℕ → Bool) → truth_at nodes pair.no s ≡ not (f s)
