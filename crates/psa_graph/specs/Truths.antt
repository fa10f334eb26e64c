-- The truths of the nodes of a graph, as functions of the ranks that occur. This project's own.
use Rattle.std.specs.Prelude.{◌==◌, ◌<◌, ℕ, Bool, false, List, [], ◌∷◌, Option, Some, None, reverse, length, ◌&&◌, ◌||◌, not, if◌then◌else◌}
use Rattle.psa_graph.specs.declared.graph.Graph.{Graph}
use Rattle.psa_graph.specs.declared.graph.GraphNode.{GraphNode}
use Rattle.psa_graph.specs.declared.graph.GraphNode.TheVariants.{Constant, Literal, And, Or}

-- a literal at the ranks that pass s
abbrev pub literal_truth : ℕ → Bool → (ℕ → Bool) → Bool
literal_truth rank occurs s = if occurs then s rank else not (s rank)

-- the truth of a node, by those of the places before it
abbrev pub node_truth : (ℕ → (ℕ → Bool) → Bool) → GraphNode → (ℕ → Bool) → Bool
node_truth before (Constant state) s = state
node_truth before (Literal rank occurs) s = literal_truth rank occurs s
node_truth before (And left right) s = before left s && before right s
node_truth before (Or left right) s = before left s || before right s

-- The truth at a place of a list of nodes that is newest first: the place of a node is the number of the older ones.
abbrev pub truth_at : List GraphNode → ℕ → (ℕ → Bool) → Bool
truth_at [] place s = false
truth_at (node ∷ older) place s =
    if place == length older then node_truth (truth_at older) node s else truth_at older place s

-- the item at a place of a list that is newest first
abbrev pub older_at : {A : Type 0} → List A → ℕ → Option A
older_at [] place = None
older_at (x ∷ older) place = if place == length older then Some x else older_at older place

-- the truth at a place of a graph, and that of the graph
abbrev pub place_truth : Graph → ℕ → (ℕ → Bool) → Bool
place_truth graph place s = truth_at (reverse graph.nodes) place s

abbrev pub graph_truth : Graph → (ℕ → Bool) → Bool
graph_truth graph s = place_truth graph graph.root s

-- a node names places before its own, and a rank below the width
abbrev pub IsNodeBehind : ℕ → ℕ → GraphNode → Type 0
IsNodeBehind width place (Constant state) = Unit {0}
IsNodeBehind width place (Literal rank occurs) = rank < width
IsNodeBehind width place (And left right) = (left < place) × (right < place)
IsNodeBehind width place (Or left right) = (left < place) × (right < place)

-- each node of a list that is newest first names older places
abbrev pub AreChildrenFirst : ℕ → List GraphNode → Type 0
AreChildrenFirst width [] = Unit {0}
AreChildrenFirst width (node ∷ older) = IsNodeBehind width (length older) node × AreChildrenFirst width older

pub record IsGraph (graph : Graph) : Type 0 where
  pub root : graph.root < length graph.nodes
  pub children : AreChildrenFirst graph.width (reverse graph.nodes)
