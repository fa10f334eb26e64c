-- Conjunction and disjunction of decision diagrams (Bryant).
use Rattle.std.specs.Prelude.{◌≡◌, ◌<◌, ◌+◌, ℕ, Bool, true, List, ◌&&◌, ◌||◌, nat_le, Result, if◌then◌else◌}
use Rattle.psa_nodes.specs.declared.node.Kind.{Kind}
use Rattle.psa_nodes.specs.declared.node.Kind.TheVariants.{Bdd}
use Rattle.psa_nodes.specs.declared.node.Node.{Node}
use Rattle.psa_nodes.specs.declared.node.NodeId.{NodeId}
use Rattle.psa_nodes.specs.declared.node.MemoKey.{MemoKey}
use Rattle.psa_nodes.specs.declared.node.TheConstants.{MAX_RANKS}
use Rattle.psa_nodes.specs.declared.node.TheConstants.NodeId.{FALSE, TRUE}
use Rattle.psa_nodes.specs.declared.node.TheConstants.MemoKey.{NO_LIMIT}
use Rattle.psa_nodes.specs.declared.node.NodeError.{NodeError}
use Rattle.psa_nodes.specs.declared.node.Operation.{Operation}
use Rattle.psa_nodes.specs.declared.node.Operation.TheVariants as operations
use Rattle.psa_nodes.specs.Readings.{Reading, truth, stands}
use Rattle.psa_nodes.specs.Nodes.{AllFit}
use Rattle.psa_nodes.specs.Table.{Table}
use Rattle.psa_nodes.specs.Progress.{pair_level, IsCall, IsResult}
use Rattle.psa_nodes.specs.Cofactors.{cofactor}
use Rattle.psa_bdd.specs.declared.connective.Connective.{Connective}
use Rattle.psa_bdd.specs.declared.connective.Connective.TheVariants.{And, Or}

abbrev pub apply : Connective → Bool → Bool → Bool
apply And x y = x && y
apply Or x y = x || y

abbrev pub operation_of : Connective → Operation
operation_of And = operations.And
operation_of Or = operations.Or

-- the terminal that decides alone, and the one that leaves the other operand
abbrev pub dominant_of : Connective → NodeId
dominant_of And = FALSE
dominant_of Or = TRUE

abbrev pub neutral_of : Connective → NodeId
neutral_of And = TRUE
neutral_of Or = FALSE

-- both orders of the operands have one key, with the smaller id first
abbrev pub key_of : Connective → NodeId → NodeId → MemoKey
key_of connective left right =
    if nat_le left.0 right.0
    then record {
      operation = operation_of connective;
      left = left;
      right = right;
      limit = NO_LIMIT;
    }
    else record {
      operation = operation_of connective;
      left = right;
      right = left;
      limit = NO_LIMIT;
    }

-- A node reads as the connective of cofactors of both truths, by one assignment of the ranks below its
-- variable.
pub record IsCofactors
    (connective : Connective) (f g : (ℕ → Bool) → Bool) (kind : Kind) (var : ℕ) (r : Reading)
    : Type 0 where
  pub of_bdd : kind ≡ Bdd
  pub assignment : ℕ → Bool
  pub reads : (s : ℕ → Bool)
      → r.as_truth s ≡ apply connective (cofactor f assignment var s) (cofactor g assignment var s)

-- What combining two diagrams does to the table, with its answer: each new node reads as the connective of
-- cofactors of both operands, and so does the triple that a full table refused.
abbrev pub IsCombining : Connective → NodeId → NodeId → Table → Table → Result NodeId NodeError
    → Type 0
IsCombining connective left right before now answer =
    IsCall (IsCofactors connective (truth before.nodes left.0) (truth before.nodes right.0))
    (pair_level before.nodes left.0 right.0) before now answer

-- the id is the result in every table in which both operands stand
abbrev pub IsTrivial : Connective → ℕ → ℕ → ℕ → Type 0
IsTrivial connective left right id =
    (ns : List Node) → AllFit ns → stands Bdd 0 ns left ≡ true → stands Bdd 0 ns right ≡ true
    → IsResult (operation_of connective) NO_LIMIT ns left right id

-- a diagram is its sides by a variable, which stand past it
pub record IsSplit (ns : List Node) (var id hi lo : ℕ) : Type 0 where
  pub hi_stands : stands Bdd (var + 1) ns hi ≡ true
  pub lo_stands : stands Bdd (var + 1) ns lo ≡ true
  pub reads : (s : ℕ → Bool) → truth ns id s ≡ (if s var then truth ns hi s else truth ns lo s)

-- the sides that a result is made of
pub record IsReady
    (connective : Connective) (ns : List Node) (left right var hi lo : ℕ) : Type 0 where
  pub bounded : var < MAX_RANKS
  pub left_stands : stands Bdd var ns left ≡ true
  pub right_stands : stands Bdd var ns right ≡ true
  pub hi_stands : stands Bdd (var + 1) ns hi ≡ true
  pub lo_stands : stands Bdd (var + 1) ns lo ≡ true
  pub reads : (s : ℕ → Bool)
      → (if s var then truth ns hi s else truth ns lo s)
      ≡ apply connective (truth ns left s) (truth ns right s)
