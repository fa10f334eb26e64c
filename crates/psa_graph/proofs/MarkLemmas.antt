-- Marks of the places that the root of a graph needs.
use Rattle.std.proofs.Common.{◌≡◌, ◌<◌, ◌≤◌, ◌+◌, ℕ, Bool, false, List, Option, Some, get_or, sym, ◌∙◌, subst, inl, inr, arith}
use Rattle.std.specs.List.{slice_get}
use Rattle.std.proofs.lemmas.Bool.Decides.{eqb_tells}
use Rattle.psa_graph.specs.declared.graph.Graph.{Graph}
use Rattle.psa_graph.specs.declared.graph.GraphNode.{GraphNode}
use Rattle.psa_graph.specs.declared.graph.GraphNode.TheVariants.{Constant, Literal, And, Or}
use Rattle.psa_graph.specs.Truths.{IsNodeBehind, IsGraph}
use Rattle.psa_graph.specs.Needs.{HoldsOfSides, IsNeeded, IsClosedFrom, IsMarked}
use Rattle.psa_graph.proofs.PlaceTruthLemmas.{node-behind}

-- the places that the node at a place names are before it
pub sides-before : (graph : Graph) → IsGraph graph → (place : ℕ) (n : GraphNode) → slice_get graph.nodes place ≡ Some n → HoldsOfSides (λ side. side < place) n
sides-before graph ok place n e = each n (node-behind graph ok place n e)
  where
    each : (m : GraphNode) → IsNodeBehind graph.width place m → HoldsOfSides (λ side. side < place) m
    each (Constant state) behind = tt
    each (Literal rank occurs) behind = tt
    each (And l r) behind = behind
    each (Or l r) behind = behind

sides-map : (P Q : ℕ → Type 0) → ((i : ℕ) → P i → Q i) → (n : GraphNode) → HoldsOfSides P n → HoldsOfSides Q n
sides-map P Q f (Constant state) h = tt
sides-map P Q f (Literal rank occurs) h = tt
sides-map P Q f (And l r) h = (f l h.0, f r h.1)
sides-map P Q f (Or l r) h = (f l h.0, f r h.1)

-- and below the number of places
pub sides-inside : (graph : Graph) → IsGraph graph → (place size : ℕ) (n : GraphNode) → place < size → slice_get graph.nodes place ≡ Some n → HoldsOfSides (λ side. side < size) n
sides-inside graph ok place size n l e = sides-map (λ side. side < place) (λ side. side < size) (λ i h. omega arith) n (sides-before graph ok place n e)

some-own : (o : Option GraphNode) (x y : GraphNode) → o ≡ Some x → o ≡ Some y → x ≡ y
some-own o x y p q = cc

-- one more place from behind: needed, with its sides marked
pub closed-marked : (graph : Graph) → IsGraph graph → (from : ℕ) (node : GraphNode) (before now : List Bool) → slice_get graph.nodes from ≡ Some node → IsClosedFrom graph before (from + 1) → IsMarked node before now → IsClosedFrom graph now from
closed-marked graph ok from node before now e closed marked place past need n at = elim (eqb_tells place from) [
  | inl p ↦
      let same : node ≡ n = some-own (slice_get graph.nodes from) node n e (subst (λ i. slice_get graph.nodes i ≡ Some n) p.1 at) in
      subst (HoldsOfSides (IsNeeded now)) same marked.sides
  | inr p ↦
      let le : from + 1 ≤ place = omega (arith, p.1) in
      let was : get_or now place false ≡ get_or before place false = marked.past from (sides-before graph ok from node e) place past in
      sides-map (IsNeeded before) (IsNeeded now) marked.kept n (closed place le (sym was ∙ need) n at)
]
