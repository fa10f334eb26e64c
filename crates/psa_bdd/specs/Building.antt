-- The decision diagram of a shared binary graph.
use Rattle.std.specs.Prelude.{◌≡◌, ◌<◌, ℕ, Bool, true, List, length, get_or}
use Rattle.psa_graph.specs.declared.graph.Graph.{Graph}
use Rattle.psa_graph.specs.Truths.{place_truth}
use Rattle.psa_nodes.specs.declared.node.Kind.{Kind}
use Rattle.psa_nodes.specs.declared.node.Kind.TheVariants.{Bdd}
use Rattle.psa_nodes.specs.declared.node.Node.{Node}
use Rattle.psa_nodes.specs.declared.node.NodeId.{NodeId}
use Rattle.psa_nodes.specs.declared.node.TheConstants.NodeId.{FALSE}
use Rattle.psa_nodes.specs.Readings.{Reading, truth, stands}
use Rattle.psa_nodes.specs.Cofactors.{cofactor}

-- a node of a decision diagram that reads as the cofactor of a truth, by one assignment of the ranks below its
-- variable
pub record IsCofactorOf
    (f : (ℕ → Bool) → Bool) (kind : Kind) (var : ℕ) (r : Reading) : Type 0 where
  pub of_bdd : kind ≡ Bdd
  pub assignment : ℕ → Bool
  pub reads : (s : ℕ → Bool) → r.as_truth s ≡ cofactor f assignment var s

-- one that reads as a cofactor of the truth of some node of a graph
pub record IsCofactorOfPlace (graph : Graph) (kind : Kind) (var : ℕ) (r : Reading) : Type 0 where
  pub place : ℕ
  pub within : place < length graph.nodes
  pub of_place : IsCofactorOf (place_truth graph place) kind var r

-- an id that stands and reads as a truth
pub record IsDiagramOf (f : (ℕ → Bool) → Bool) (ns : List Node) (id : ℕ) : Type 0 where
  pub stands_at : stands Bdd 0 ns id ≡ true
  pub reads : (s : ℕ → Bool) → truth ns id s ≡ f s

-- the id that a list has for a place is the diagram of its node
pub record IsBuilt (graph : Graph) (ns : List Node) (built : List NodeId) (place : ℕ) : Type 0 where
  pub within : place < length built
  pub diagram : IsDiagramOf (place_truth graph place) ns (get_or built place FALSE).0
