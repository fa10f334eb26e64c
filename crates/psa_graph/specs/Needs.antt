-- What the root of a graph needs: the places that its node names, and all that a needed node names. This project's
-- own.
use Rattle.std.specs.Prelude.{◌≡◌, ◌<◌, ◌≤◌, ℕ, Bool, true, false, List, Some, length, get_or, slice_get}
use Rattle.psa_graph.specs.declared.graph.Graph.{Graph}
use Rattle.psa_graph.specs.declared.graph.GraphNode.{GraphNode}
use Rattle.psa_graph.specs.declared.graph.GraphNode.TheVariants.{Constant, Literal, And, Or}

-- something holds of both places that a node names
abbrev pub HoldsOfSides : (ℕ → Type 0) → GraphNode → Type 0
HoldsOfSides P (Constant state) = Unit {0}
HoldsOfSides P (Literal rank occurs) = Unit {0}
HoldsOfSides P (And left right) = P left × P right
HoldsOfSides P (Or left right) = P left × P right

-- the same of the node at a place
abbrev pub HoldsOfSidesAt : (ℕ → Type 0) → Graph → ℕ → Type 0
HoldsOfSidesAt P graph place =
    (node : GraphNode) → slice_get graph.nodes place ≡ Some node → HoldsOfSides P node

-- whether a place is marked as needed
abbrev pub IsNeeded : List Bool → ℕ → Type 0
IsNeeded needed place = get_or needed place false ≡ true

-- both places that a needed node names are needed
abbrev pub IsClosedFrom : Graph → List Bool → ℕ → Type 0
IsClosedFrom graph needed from =
    (place : ℕ) → from ≤ place → IsNeeded needed place → HoldsOfSidesAt (IsNeeded needed) graph place

-- marks for the places of a graph: of its root, and of all that a needed node names
pub record AreNeeds (graph : Graph) (needed : List Bool) : Type 0 where
  pub size : length needed ≡ length graph.nodes
  pub root : IsNeeded needed graph.root
  pub closed : IsClosedFrom graph needed 0

-- the places that a node names were marked, and no other
pub record IsMarked (node : GraphNode) (before now : List Bool) : Type 0 where
  pub size : length now ≡ length before
  pub kept : (place : ℕ) → IsNeeded before place → IsNeeded now place
  pub sides : HoldsOfSides (IsNeeded now) node
  pub past : (bound : ℕ) → HoldsOfSides (λ side. side < bound) node
      → (place : ℕ) → bound ≤ place → get_or now place false ≡ get_or before place false
