-- The minimal cut sets of a graph by families of signed products of its nodes (this project's own; families of
-- products are Minato's, minimal cut sets Rauzy's).
use Rattle.std.specs.Prelude.{◌≡◌, ◌⊎◌, ◌↔◌, ◌<◌, ◌≤◌, ℕ, Bool, true, List, length, filter, nat_lt, get_or}
use Rattle.std.specs.List.{list_all}
use Rattle.psa_logic.specs.Sets.{is_ascending, is_part, occurs}
use Rattle.psa_logic.specs.Products.{rank_of, is_positive, positive_product, is_consistent, holds_at, IsImplicant, IsCutProduct}
use Rattle.psa_graph.specs.declared.graph.Graph.{Graph}
use Rattle.psa_graph.specs.Truths.{place_truth}
use Rattle.psa_nodes.specs.declared.node.Kind.TheVariants.{Zbdd}
use Rattle.psa_nodes.specs.declared.node.Node.{Node}
use Rattle.psa_nodes.specs.declared.node.NodeId.{NodeId}
use Rattle.psa_nodes.specs.declared.node.TheConstants.NodeId.{EMPTY}
use Rattle.psa_nodes.specs.Readings.{has, stands}
use Rattle.psa_nodes.specs.Nodes.{IsOnly}

-- ---- what a call for a graph gives

-- the id is the family of exactly the minimal cut sets of a truth within a limit, and no other node reads so
pub record IsFamilyOfCutSets (f : (ℕ → Bool) → Bool) (limit : ℕ) (ns : List Node) (id : ℕ) : Type 0 where
  pub stands_at : stands Zbdd 0 ns id ≡ true
  pub reads : (product : List ℕ) → (has ns id product ≡ true) ↔ IsCutProduct f limit product
  pub only : IsOnly Zbdd ns id

-- ---- from where its nodes come

-- a product of literals whose ranks are below the width, with no event both ways and at most `limit` literals
-- of events that occur
pub record IsSignedProduct (width limit : ℕ) (product : List ℕ) : Type 0 where
  pub ranked : list_all (λ literal. nat_lt (rank_of literal) width) product ≡ true
  pub ascending : is_ascending product ≡ true
  pub consistent : is_consistent product ≡ true
  pub within : length (filter is_positive product) ≤ limit

-- a signed product that is an implicant of a truth
abbrev pub IsSignedImplicant : ℕ → ℕ → ((ℕ → Bool) → Bool) → List ℕ → Type 0
IsSignedImplicant width limit f product = IsSignedProduct width limit product × IsImplicant f product

-- the product of the events of a cut set: the truth holds where exactly they occur
abbrev pub IsCuttingProduct : ((ℕ → Bool) → Bool) → List ℕ → Type 0
IsCuttingProduct f product =
    (set : List ℕ) × (product ≡ positive_product set) × (f (occurs set) ≡ true)

-- A product of a graph: a signed one that is an implicant of the truth of some node, or the product of a cut
-- set of it.
pub record IsGraphProduct (graph : Graph) (limit : ℕ) (product : List ℕ) : Type 0 where
  pub place : ℕ
  pub of_graph : place < length graph.nodes
  pub signed : IsSignedProduct graph.width limit product
  pub implies : IsImplicant (place_truth graph place) product
      ⊎ IsCuttingProduct (place_truth graph place) product

-- ---- the families of the nodes

-- A family of signed implicants of a truth, one of which holds at each set of at most `limit` events at which
-- the truth does.
pub record IsCover (width limit : ℕ) (f : (ℕ → Bool) → Bool) (family : List ℕ → Bool) : Type 0 where
  pub sound : (product : List ℕ) → family product ≡ true → IsSignedImplicant width limit f product
  pub covers : (set : List ℕ) → is_ascending set ≡ true → length set ≤ limit → f (occurs set) ≡ true
      → (product : List ℕ) × (family product ≡ true) × (holds_at (occurs set) product ≡ true)

-- an id of a family that covers a truth
pub record IsCoverAt
    (width limit : ℕ) (f : (ℕ → Bool) → Bool) (ns : List Node) (id : ℕ) : Type 0 where
  pub stands_at : stands Zbdd 0 ns id ≡ true
  pub cover : IsCover width limit f (has ns id)

-- the id that a list has for a place of a graph is one of a family that covers its truth
pub record IsCovered (graph : Graph) (limit : ℕ) (ns : List Node) (families : List NodeId) (place : ℕ)
    : Type 0 where
  pub within : place < length families
  pub family : IsCoverAt graph.width limit (place_truth graph place) ns (get_or families place EMPTY).0

-- A family of sets of a source, one in each set of the source. So it covers what the source does.
pub record IsReduced (Source : List ℕ → Type 0) (family : List ℕ → Bool) : Type 0 where
  pub of_source : (set : List ℕ) → family set ≡ true → Source set
  pub includes : (set : List ℕ) → Source set
      → (part : List ℕ) × (family part ≡ true) × (is_part part set ≡ true)

-- an id of such a family
pub record IsReducedAt (Source : List ℕ → Type 0) (ns : List Node) (id : ℕ) : Type 0 where
  pub stands_at : stands Zbdd 0 ns id ≡ true
  pub reduced : IsReduced Source (has ns id)
