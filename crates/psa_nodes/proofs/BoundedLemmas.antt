-- The bound on variables, as nodes are added.
use Rattle.std.proofs.Common.{◌≡◌, ◌<◌, true, List, [], ◌∷◌, Some, Result, Ok, Err, refl, sym, subst, inl, inr, ℕ}
use Rattle.std.proofs.lemmas.Bool.Decides.{eqb_tells}
use Rattle.psa_nodes.specs.declared.node.Kind.{Kind}
use Rattle.psa_nodes.specs.declared.node.Node.{Node}
use Rattle.psa_nodes.specs.declared.node.NodeId.{NodeId}
use Rattle.psa_nodes.specs.declared.node.NodeError.{NodeError}
use Rattle.psa_nodes.specs.declared.node.NodeError.TheVariants.{Full, Memory}
use Rattle.psa_nodes.specs.Readings.{next_id, node_at, stands}
use Rattle.psa_nodes.specs.Nodes.{max_variables, IsBounded}
use Rattle.psa_nodes.specs.Table.{Table, MakesNode}
use Rattle.psa_nodes.proofs.StandsLemmas.{stands-at}

-- the empty table is bounded
pub bounded-none : IsBounded []
bounded-none id n there = cc

-- a node of a kind that stands in a bounded table is below the kind's bound
pub bounded-at : (k : Kind) (ns : List Node) → IsBounded ns → (id : ℕ) (n : Node) → stands k 0 ns id ≡ true → node_at ns id ≡ Some n → n.var < max_variables k
bounded-at k ns bounded id n st there = rw (stands-at k 0 ns id n st there).0 at (bounded id n there)

-- one more node below its bound
pub bounded-cons : (n : Node) (older : List Node) → n.var < max_variables n.kind → IsBounded older → IsBounded (n ∷ older)
bounded-cons n older small bounded id m there =
    elim (eqb_tells id (next_id older)) [
      | inl p ↦
          let same : Some n ≡ Some m = rw p.0 at there in
          let own : n ≡ m = cc in
          subst (λ (x : Node). x.var < max_variables x.kind) own small
      | inr p ↦ bounded id m (rw p.0 at there)
    ]

-- asking for a node whose variable is below the bound keeps the table bounded
pub bounded-made : (n : Node) (before now : Table) (answer : Result NodeId NodeError) → MakesNode n before now answer → n.var < max_variables n.kind → IsBounded before.nodes → IsBounded now.nodes
bounded-made n before now (Ok id) made small bounded =
    elim made.added [
      | inl p ↦ subst (λ (t : Table). IsBounded t.nodes) (sym p) bounded
      | inr p ↦ subst (λ (t : Table). IsBounded t.nodes) (sym p.0) (bounded-cons n before.nodes small bounded)
    ]
bounded-made n before now (Err Full) made small bounded =
    subst (λ (t : Table). IsBounded t.nodes) (sym (made.at_full refl)) bounded
bounded-made n before now (Err Memory) made small bounded =
    subst (λ (t : Table). IsBounded t.nodes) (sym (made.at_memory refl).0) bounded
