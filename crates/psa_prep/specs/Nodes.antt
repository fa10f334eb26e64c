-- A graph while it is made.
use Rattle.std.specs.Prelude.{◌≡◌, ◌==◌, ◌<◌, ◌⊎◌, ℕ, Bool, true, false, List, [], ◌∷◌, reverse, length, unwrap_or, ◌&&◌, ◌||◌, if◌then◌else◌}
use Rattle.indexmap.specs.IndexMap.{get}
use Rattle.psa_graph.specs.declared.graph.GraphNode.{GraphNode}
use Rattle.psa_graph.specs.declared.graph.GraphNode.TheVariants.{Constant}
use Rattle.psa_graph.specs.Truths.{truth_at, node_truth, IsNodeBehind, AreChildrenFirst}
use Rattle.psa_model.specs.Parts.{Truth}
use Rattle.psa_prep.specs.declared.builder.Builder.{Builder}
use Rattle.psa_prep.specs.declared.builder.Known.{Known}
use Rattle.psa_prep.specs.declared.builder.Prepared.{Prepared}
use Rattle.psa_prep.specs.declared.builder.Prepared.TheVariants.{Gate, Formula}
use Rattle.psa_prep.specs.declared.pairs.Pair.{Pair}
use Rattle.psa_prep.specs.declared.pairs.Signs.{Signs}
use Rattle.psa_prep.specs.Pairs.{constant_pair}

-- the nodes, newest first
abbrev pub nodes_of : Builder → List GraphNode
nodes_of builder = reverse builder.nodes.keys

-- the conjunction or the disjunction of two truths
abbrev pub joins : Bool → Bool → Bool → Bool
joins true a b = a && b
joins false a b = a || b

-- Nodes name older places, and the first two are the constants.
pub record IsBuilt (builder : Builder) : Type 0 where
  pub first : AreChildrenFirst builder.width (nodes_of builder)
  pub some : 1 < length (nodes_of builder)
  pub falsity : (s : ℕ → Bool) → truth_at (nodes_of builder) 0 s ≡ false
  pub verity : (s : ℕ → Bool) → truth_at (nodes_of builder) 1 s ≡ true

-- The node at the place reads as the truth where it was asked for; a node that came in is the one at the place.
pub record Placed (asked : Bool) (f : Truth) (before now : Builder) (place : ℕ) : Type 0 where
  pub there : place < length (nodes_of now)
  pub reads : asked ≡ true → (s : ℕ → Bool) → truth_at (nodes_of now) place s ≡ f s
  pub adds : (nodes_of now ≡ nodes_of before) ⊎ ((node : GraphNode) × (nodes_of now ≡ node ∷ nodes_of before) × (place ≡ length (nodes_of before)) × (asked ≡ true))
  pub built : IsBuilt now
  pub width : now.width ≡ before.width
  pub memo : now.memo ≡ before.memo

-- the place reads as the conjunction or disjunction of two, in any graph
abbrev pub JoinsAt : Bool → ℕ → ℕ → ℕ → Type 0
JoinsAt both left right place =
    (builder : Builder) → IsBuilt builder → left < length (nodes_of builder) → right < length (nodes_of builder)
    → (place < length (nodes_of builder)) × ((s : ℕ → Bool) → truth_at (nodes_of builder) place s ≡ joins both (truth_at (nodes_of builder) left s) (truth_at (nodes_of builder) right s))

-- the node reads so, and names the two places
pub record Joined (both : Bool) (left right : ℕ) (node : GraphNode) : Type 0 where
  pub reads : (before : ℕ → Truth) (s : ℕ → Bool) → node_truth before node s ≡ joins both (before left s) (before right s)
  pub behind : (width place : ℕ) → left < place → right < place → IsNodeBehind width place node

-- ---- what was prepared

abbrev pub prepared_eq : Prepared → Prepared → Bool
prepared_eq (Gate id state) (Gate other number) = (id == other) && (state == number)
prepared_eq (Gate id state) (Formula other number) = false
prepared_eq (Formula id state) (Gate other number) = false
prepared_eq (Formula id state) (Formula other number) = (id == other) && (state == number)

-- nothing was asked for yet
abbrev pub nothing_known : Known
nothing_known = record { signs = record { yes = false; no = false }; pair = constant_pair false }

abbrev pub known_of : Builder → Prepared → Known
known_of builder subject = unwrap_or (get prepared_eq builder.memo subject) nothing_known

-- the same with nodes for more signs
abbrev pub with_more : Known → Signs → Pair → Known
with_more known signs pair = record {
  signs = record { yes = known.signs.yes || signs.yes; no = known.signs.no || signs.no };
  pair = record { yes = if signs.yes then pair.yes else known.pair.yes; no = if signs.no then pair.no else known.pair.no };
}

pub record Remembers (subject : Prepared) (known : Known) (before now : Builder) : Type 0 where
  pub nodes : now.nodes ≡ before.nodes
  pub width : now.width ≡ before.width
  pub entries : (other : Prepared) → known_of now other ≡ (if prepared_eq subject other then known else known_of before other)

-- the two constants alone, and nothing prepared
pub record IsBlank (width : ℕ) (builder : Builder) : Type 0 where
  pub nodes : nodes_of builder ≡ Constant true ∷ Constant false ∷ []
  pub is_width : builder.width ≡ width
  pub entries : (subject : Prepared) → known_of builder subject ≡ nothing_known
