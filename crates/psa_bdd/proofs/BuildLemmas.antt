-- The diagrams of the places of a graph: how each is made of those of the places that its node names.
use Rattle.std.proofs.Common.{◌≡◌, ◌<◌, ◌≤◌, ◌+◌, ◌==◌, ℕ, Bool, true, false, List, [], ◌∷◌, ◌++◌, length, get_or, not, if◌then◌else◌, Result, Ok, Err, IfOk, OnOk, refl, sym, ap, ap₂, ◌∙◌, subst, inl, inr, arith, length-append}
use Rattle.std.proofs.lemmas.Bool.Decides.{eqb_tells}
use Rattle.std.proofs.lemmas.List.{get_or_append_left}
use Rattle.std.proofs.Math.Seq.{get_or-append_seam}
use Rattle.psa_graph.specs.declared.graph.Graph.{Graph}
use Rattle.psa_graph.specs.declared.graph.GraphNode.{GraphNode}
use Rattle.psa_graph.specs.declared.graph.GraphNode.TheVariants as nodes
use Rattle.psa_graph.specs.Truths.{literal_truth, place_truth, IsNodeBehind, IsGraph}
use Rattle.psa_nodes.specs.declared.node.Kind.{Kind}
use Rattle.psa_nodes.specs.declared.node.Kind.TheVariants.{Bdd}
use Rattle.psa_nodes.specs.declared.node.Node.{Node}
use Rattle.psa_nodes.specs.declared.node.NodeId.{NodeId}
use Rattle.psa_nodes.specs.declared.node.NodeError.{NodeError}
use Rattle.psa_nodes.specs.declared.node.TheConstants.{MAX_RANKS}
use Rattle.psa_nodes.specs.declared.node.TheConstants.NodeId.{FALSE}
use Rattle.psa_nodes.specs.Readings.{Reading, truth, stands, node_reading, first_literal}
use Rattle.psa_nodes.specs.Nodes.{Grown, IsOnly}
use Rattle.psa_nodes.specs.Table.{Table, IsTable, MakesNode}
use Rattle.psa_nodes.specs.Progress.{pair_level, IsCall, IsResult}
use Rattle.psa_nodes.specs.Cofactors.{assigned}
use Rattle.psa_nodes.proofs.CallerLemmas.{truth-terminal, stands-terminal, stands-weaker, stands-below, stands-kept, truth-kept, assigned-past, only, call-node, call-wide}
use Rattle.psa_bdd.specs.declared.connective.Connective.{Connective}
use Rattle.psa_bdd.specs.Combined.{apply, operation_of, IsCofactors, IsCombining}
use Rattle.psa_bdd.specs.Building.{IsCofactorOf, IsCofactorOfPlace, IsDiagramOf, IsBuilt}
use Rattle.psa_graph.specs.Needs.{HoldsOfSides, HoldsOfSidesAt, IsNeeded, AreNeeds}
use Rattle.psa_bdd.proofs.ConnectiveLemmas.{result-stands, result-reads}
use Rattle.psa_graph.proofs.PlaceTruthLemmas.{node-behind}

-- a diagram stays one when the table grows
pub diagram-kept : {f : (ℕ → Bool) → Bool} {before now : List Node} → Grown before now → (id : ℕ) → IsDiagramOf f before id → IsDiagramOf f now id
diagram-kept {f} {before} {now} g id d = record {
  stands_at = stands-kept g Bdd 0 id d.stands_at;
  reads = λ s. truth-kept g id s (stands-below Bdd 0 before id d.stands_at) ∙ d.reads s;
}

-- a terminal is the diagram of a constant
pub terminal-diagram : (f : (ℕ → Bool) → Bool) (ns : List Node) (id : ℕ) → id < 2 → ((s : ℕ → Bool) → f s ≡ (id == 1)) → IsDiagramOf f ns id
terminal-diagram f ns id lt is = record {
  stands_at = stands-terminal Bdd 0 ns id lt;
  reads = λ s. truth-terminal ns id s lt ∙ sym (is s);
}

choice-own : (b : Bool) → (if b then true else false) ≡ b
choice-own true = refl
choice-own false = refl

choice-not : (b : Bool) → (if b then false else true) ≡ not b
choice-not true = refl
choice-not false = refl

-- what the node of an event reads as
pub occurs-sides : (ns : List Node) (rank : ℕ) (s : ℕ → Bool) → (if s rank then truth ns 1 s else truth ns 0 s) ≡ literal_truth rank true s
occurs-sides ns rank s = rw (truth-terminal ns 1 s (omega arith)) (rw (truth-terminal ns 0 s (omega arith)) (choice-own (s rank)))

-- and that of an event that does not occur
pub fails-sides : (ns : List Node) (rank : ℕ) (s : ℕ → Bool) → (if s rank then truth ns 0 s else truth ns 1 s) ≡ literal_truth rank false s
fails-sides ns rank s = rw (truth-terminal ns 1 s (omega arith)) (rw (truth-terminal ns 0 s (omega arith)) (choice-not (s rank)))

-- the node of a literal
module _ (rank : ℕ) (occurs : Bool) (hi lo : NodeId) (before : Table) (ok : IsTable before) (small : rank < MAX_RANKS) (sides : (s : ℕ → Bool) → (if s rank then truth before.nodes hi.0 s else truth before.nodes lo.0 s) ≡ literal_truth rank occurs s) where
  abbrev literal : Node
  literal = record { kind = Bdd; var = rank; hi = hi; lo = lo }

  -- is its diagram
  pub literal-diagram : (now : Table) (answer : Result NodeId NodeError) → MakesNode literal before now answer → IfOk answer (λ id. IsDiagramOf (literal_truth rank occurs) now.nodes id.0)
  literal-diagram now (Ok id) made = record {
    stands_at = stands-weaker Bdd rank 0 now.nodes id.0 (omega arith) made.stands_at;
    reads = λ s. made.reads s ∙ sides s;
  }
  literal-diagram now (Err e) made = tt

  -- and no result is remembered for it
  pub literal-entries : (now : Table) (answer : Result NodeId NodeError) → MakesNode literal before now answer → OnOk answer (now.entries ≡ before.entries)
  literal-entries now (Ok id) made = elim made.added [
    | inl p ↦ ap (λ (t : Table). t.entries) p
    | inr p ↦ ap (λ (t : Table). t.entries) p.0
  ]
  literal-entries now (Err e) made = tt

  -- it reads as any cofactor of the literal by ranks below its own
  literal-origin : IsCofactorOf (literal_truth rank occurs) Bdd rank (node_reading before.nodes literal)
  literal-origin = record {
    of_bdd = refl;
    assignment = λ y. false;
    reads = λ s. sides s ∙ ap (λ (b : Bool). if occurs then b else not b) (sym (assigned-past (λ y. false) s rank rank (omega arith)));
  }

  pub literal-call : (now : Table) (answer : Result NodeId NodeError) → IsTable now → MakesNode literal before now answer → IsCall (IsCofactorOf (literal_truth rank occurs)) 0 before now answer
  literal-call now answer good made =
      call-node literal before ok (record { past = omega arith; origin = literal-origin }) (λ b. small) now answer good made

-- a call for a cofactor of a node's truth is one for the graph
pub place-call : (graph : Graph) (place : ℕ) → place < length graph.nodes → (f : (ℕ → Bool) → Bool) → ((s : ℕ → Bool) → place_truth graph place s ≡ f s) → (before now : Table) (answer : Result NodeId NodeError) → IsCall (IsCofactorOf f) 0 before now answer → IsCall (IsCofactorOfPlace graph) 0 before now answer
place-call graph place inside f is before now answer call =
    call-wide {Origin = IsCofactorOf f} {Wide = IsCofactorOfPlace graph} {low = 0} {wide = 0} (omega arith) wider answer call
  where
    wider : (k : Kind) (v : ℕ) (r : Reading) → 0 ≤ first_literal k v → IsCofactorOf f k v r → IsCofactorOfPlace graph k v r
    wider k v r past o = record {
      place = place;
      within = inside;
      of_place = record { of_bdd = o.of_bdd; assignment = o.assignment; reads = λ s. o.reads s ∙ sym (is (assigned o.assignment v s)) };
    }

-- a node's diagram is one for an equal truth
pub diagram-same : (f g : (ℕ → Bool) → Bool) → ((s : ℕ → Bool) → g s ≡ f s) → (ns : List Node) (answer : Result NodeId NodeError) → IfOk answer (λ id. IsDiagramOf f ns id.0) → IfOk answer (λ id. IsDiagramOf g ns id.0)
diagram-same f g is ns (Ok id) d = record { stands_at = d.stands_at; reads = λ s. d.reads s ∙ sym (is s) }
diagram-same f g is ns (Err e) d = tt

-- the connective of the diagrams of both places
module _ (c : Connective) (graph : Graph) (place l r : ℕ) (inside : place < length graph.nodes) (is : (s : ℕ → Bool) → place_truth graph place s ≡ apply c (place_truth graph l s) (place_truth graph r s)) (before : Table) (left right : NodeId) (dl : IsDiagramOf (place_truth graph l) before.nodes left.0) (dr : IsDiagramOf (place_truth graph r) before.nodes right.0) where
  whole : (s : ℕ → Bool) → place_truth graph place s ≡ apply c (truth before.nodes left.0 s) (truth before.nodes right.0 s)
  whole s = is s ∙ sym (ap₂ (apply c) (dl.reads s) (dr.reads s))

  -- is the diagram of the node
  pub combined-diagram : (now : Table) (answer : Result NodeId NodeError) → IsCombining c left right before now answer → IfOk answer (λ id. IsResult (operation_of c) 0 now.nodes left.0 right.0 id.0) → IfOk answer (λ id. IsDiagramOf (place_truth graph place) now.nodes id.0)
  combined-diagram now (Ok id) call result = record {
    stands_at = result-stands c now.nodes left.0 right.0 id.0 result;
    reads = λ s. result-reads c now.nodes left.0 right.0 id.0 result s
        ∙ ap₂ (apply c)
        (truth-kept call.progress.nodes left.0 s (stands-below Bdd 0 before.nodes left.0 dl.stands_at))
        (truth-kept call.progress.nodes right.0 s (stands-below Bdd 0 before.nodes right.0 dr.stands_at))
        ∙ sym (whole s);
  }
  combined-diagram now (Err e) call result = tt

  -- and its nodes are cofactors of the node's truth
  pub combined-call : (now : Table) (answer : Result NodeId NodeError) → IsCombining c left right before now answer → IsCall (IsCofactorOfPlace graph) 0 before now answer
  combined-call now answer call =
      call-wide {Origin = IsCofactors c (truth before.nodes left.0) (truth before.nodes right.0)} {Wide = IsCofactorOfPlace graph} {low = pair_level before.nodes left.0 right.0} {wide = 0} (omega arith) wider answer call
    where
      wider : (k : Kind) (v : ℕ) (x : Reading) → pair_level before.nodes left.0 right.0 ≤ first_literal k v → IsCofactors c (truth before.nodes left.0) (truth before.nodes right.0) k v x → IsCofactorOfPlace graph k v x
      wider k v x past o = record {
        place = place;
        within = inside;
        of_place = record { of_bdd = o.of_bdd; assignment = o.assignment; reads = λ s. o.reads s ∙ sym (whole (assigned o.assignment v s)) };
      }

-- the diagrams of the needed places before a number
abbrev pub AreBuilt : Graph → List Bool → List Node → List NodeId → Type 0
AreBuilt graph needed ns built =
    (place : ℕ) → place < length built → IsNeeded needed place → IsDiagramOf (place_truth graph place) ns (get_or built place FALSE).0

-- none yet
pub built-none : (graph : Graph) (needed : List Bool) (ns : List Node) (built : List NodeId) → built ≡ [] → AreBuilt graph needed ns built
built-none graph needed ns built e place inside need = absurd (omega (arith, inside, ap (length {A = NodeId}) e))

-- those that a needed node names are among them
pub sides-built : (graph : Graph) (needed : List Bool) (ns : List Node) (built : List NodeId) → IsGraph graph → AreNeeds graph needed → AreBuilt graph needed ns built → IsNeeded needed (length built) → HoldsOfSidesAt (IsBuilt graph ns built) graph (length built)
sides-built graph needed ns built ok needs are need node e =
    each node (node-behind graph ok (length built) node e) (needs.closed (length built) (omega arith) need node e)
  where
    each : (n : GraphNode) → IsNodeBehind graph.width (length built) n → HoldsOfSides (IsNeeded needed) n → HoldsOfSides (IsBuilt graph ns built) n
    each (nodes.Constant state) behind both = tt
    each (nodes.Literal rank occurs) behind both = tt
    each (nodes.And l r) behind both = (record { within = behind.0; diagram = are l behind.0 both.0 }, record { within = behind.1; diagram = are r behind.1 both.1 })
    each (nodes.Or l r) behind both = (record { within = behind.0; diagram = are l behind.0 both.0 }, record { within = behind.1; diagram = are r behind.1 both.1 })

-- one more place
pub built-more : (graph : Graph) (needed : List Bool) (before now : List Node) (built after : List NodeId) (id : NodeId) → Grown before now → AreBuilt graph needed before built → (IsNeeded needed (length built) → IsDiagramOf (place_truth graph (length built)) now id.0) → after ≡ built ++ (id ∷ []) → AreBuilt graph needed now after
built-more graph needed before now built after id g are last e =
    subst (AreBuilt graph needed now) (sym e) more
  where
    more : AreBuilt graph needed now (built ++ (id ∷ []))
    more place inside need = elim (eqb_tells place (length built)) [
      | inl p ↦
          subst (λ (x : NodeId). IsDiagramOf (place_truth graph place) now x.0) (sym (ap (λ i. get_or (built ++ (id ∷ [])) i FALSE) p.1 ∙ get_or-append_seam built id [] FALSE))
          (subst (λ i. IsDiagramOf (place_truth graph i) now id.0) (sym p.1) (last (subst (IsNeeded needed) p.1 need)))
      | inr p ↦
          let long : length (built ++ (id ∷ [])) ≡ length built + 1 = length-append built (id ∷ []) in
          let l : place < length built = omega (arith, p.1) in
          subst (λ (x : NodeId). IsDiagramOf (place_truth graph place) now x.0) (sym (get_or_append_left built (id ∷ []) FALSE place l))
          (diagram-kept g (get_or built place FALSE).0 (are place l need))
    ]

-- a diagram in a table is the only one that reads so
pub diagram-only : (f : (ℕ → Bool) → Bool) (now : Table) (answer : Result NodeId NodeError) → IsTable now → IfOk answer (λ id. IsDiagramOf f now.nodes id.0) → IfOk answer (λ id. (stands Bdd 0 now.nodes id.0 ≡ true) × ((s : ℕ → Bool) → truth now.nodes id.0 s ≡ f s) × IsOnly Bdd now.nodes id.0)
diagram-only f now (Ok id) ok d = (d.stands_at, d.reads, only Bdd now.nodes ok.fit id.0 d.stands_at)
diagram-only f now (Err e) ok d = tt
