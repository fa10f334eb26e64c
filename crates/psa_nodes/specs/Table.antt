-- The node table as contracts see it, and what holds of every table.
use Rattle.std.specs.Prelude.{◌≡◌, ◌≢◌, ◌≤◌, ◌↔◌, ◌⊎◌, ℕ, true, false, List, [], ◌∷◌, Option, Some, IfSome, Result, Ok, Err, IfOk, length}
use Rattle.psa_nodes.specs.declared.node.Node.{Node}
use Rattle.psa_nodes.specs.declared.node.NodeId.{NodeId}
use Rattle.psa_nodes.specs.declared.node.MemoKey.{MemoKey}
use Rattle.psa_nodes.specs.declared.node.TheConstants.MemoKey.{NO_RIGHT, NO_LIMIT}
use Rattle.psa_nodes.specs.declared.node.NodeError.{NodeError}
use Rattle.psa_nodes.specs.declared.node.NodeError.TheVariants.{Full, Memory}
use Rattle.psa_nodes.specs.Readings.{node_at, stands, reading, node_reading, IsSameReading}
use Rattle.psa_nodes.specs.Nodes.{Fits, AllFit, IsReduced, IsOnly}
use Rattle.psa_nodes.specs.Sizes.{AreSized}
use Rattle.psa_nodes.specs.Operations.{operand_kind, result_kind, takes_right, takes_limit, Computes}

-- The nodes are newest first, the remembered entries oldest first.
pub record Table : Type 0 where
  pub nodes : List Node
  pub entries : List (MemoKey × NodeId)
  pub limit : Option ℕ
  pub refused : Option Node

abbrev pub table_of : List Node → List (MemoKey × NodeId) → Option ℕ → Option Node → Table
table_of nodes entries limit refused =
    record { nodes = nodes; entries = entries; limit = limit; refused = refused }

-- A remembered entry is right: an operation of one node has no right operand, one without a limit no
-- limit; the operands and the result stand, and the result is what the operation computes.
pub record IsRight (ns : List Node) (key : MemoKey) (result : NodeId) : Type 0 where
  pub no_right : takes_right key.operation ≡ false → key.right ≡ NO_RIGHT
  pub no_limit : takes_limit key.operation ≡ false → key.limit ≡ NO_LIMIT
  pub left_stands : stands (operand_kind key.operation) 0 ns key.left.0 ≡ true
  pub right_stands : stands (operand_kind key.operation) 0 ns key.right.0 ≡ true
  pub result_stands : stands (result_kind key.operation) 0 ns result.0 ≡ true
  pub computes : Computes key.operation key.limit
      (reading ns key.left.0) (reading ns key.right.0) (reading ns result.0)

abbrev pub AllRight : List Node → List (MemoKey × NodeId) → Type 0
AllRight ns [] = Unit {0}
AllRight ns (e ∷ es) = IsRight ns e.0 e.1 × AllRight ns es

-- no entry has the key
abbrev pub Lacks : List (MemoKey × NodeId) → MemoKey → Type 0
Lacks [] key = Unit {0}
Lacks (e ∷ es) key = (e.0 ≢ key) × Lacks es key

-- the keys of the entries differ
abbrev pub AreDifferent : List (MemoKey × NodeId) → Type 0
AreDifferent [] = Unit {0}
AreDifferent (e ∷ es) = Lacks es e.0 × AreDifferent es

-- a node that a full table refuses: it could be added, but as many nodes stand as the limit allows
pub record IsRefused (ns : List Node) (limit : Option ℕ) (n : Node) : Type 0 where
  pub fits : Fits ns n
  pub full : limit ≡ Some (length ns)

-- what holds of every table
pub record IsTable (t : Table) : Type 0 where
  pub fit : AllFit t.nodes
  pub right : AllRight t.nodes t.entries
  pub different : AreDifferent t.entries
  pub within : IfSome t.limit (λ limit. length t.nodes ≤ limit)
  pub refused : IfSome t.refused (IsRefused t.nodes t.limit)

-- what holds of every table and of the sizes that it keeps beside its nodes
pub record IsStored (sizes : List ℕ) (t : Table) : Type 0 where
  pub table : IsTable t
  pub sized : AreSized t.nodes sizes

-- What asking for a node of this kind, variable and children does to a table, and its answer.
pub record MakesNode
    (n : Node) (before now : Table) (answer : Result NodeId NodeError) : Type 0 where
  -- a triple that is not reduced is its `lo`, without a node of its own
  pub passed : (IsReduced n.kind n.hi.0 n.lo.0 → ⊥) → answer ≡ Ok n.lo
  -- else the answer is the node of this triple
  pub node : IsReduced n.kind n.hi.0 n.lo.0 → IfOk answer (λ id. node_at now.nodes id.0 ≡ Some n)
  pub stands_at : IfOk answer (λ id. stands n.kind n.var now.nodes id.0 ≡ true)
  pub reads : IfOk answer (λ id.
      IsSameReading n.kind (reading now.nodes id.0) (node_reading before.nodes n))
  pub only : IfOk answer (λ id. IsOnly n.kind now.nodes id.0)
  -- one node was added, only where it was needed, or nothing changed
  pub added : IfOk answer (λ _. (now ≡ before)
      ⊎ ((now ≡ record before { nodes = n ∷ before.nodes }) × Fits before.nodes n))
  -- Full exactly where the triple is reduced and new and as many nodes stand as the limit allows
  pub full : (answer ≡ Err Full) ↔ IsRefused before.nodes before.limit n
  -- the refused triple is kept, and nothing else changes
  pub at_full : answer ≡ Err Full → now ≡ record before { refused = Some n }
  -- memory is wanted for a new node alone, and at such a refusal nothing changes
  pub at_memory : answer ≡ Err Memory → (now ≡ before) × Fits before.nodes n
