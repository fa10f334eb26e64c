-- Families by the side with a variable and the side without it (Minato).
use Rattle.std.specs.Prelude.{◌≡◌, ℕ, ◌+◌, ◌<◌, min, true, List, Option, None, Some}
use Rattle.psa_nodes.specs.declared.node.Kind.TheVariants.{Zbdd}
use Rattle.psa_nodes.specs.declared.node.Node.{Node}
use Rattle.psa_nodes.specs.declared.node.NodeId.{NodeId}
use Rattle.psa_nodes.specs.declared.node.TheConstants.{MAX_LITERAL_NUMBERS}
use Rattle.psa_nodes.specs.declared.node.TheConstants.MemoKey.{NO_LIMIT}
use Rattle.psa_nodes.specs.declared.node.Operation.{Operation}
use Rattle.psa_nodes.specs.Readings.{has, joined, stands}
use Rattle.psa_nodes.specs.Nodes.{AllFit}
use Rattle.psa_nodes.specs.Progress.{pair_level, IsResult}
use Rattle.psa_families.specs.declared.sides.Sides.{Sides}

-- a family is its sides by a variable, which stand past it
pub record IsSplit (ns : List Node) (var id hi lo : ℕ) : Type 0 where
  pub hi_stands : stands Zbdd (var + 1) ns hi ≡ true
  pub lo_stands : stands Zbdd (var + 1) ns lo ≡ true
  pub reads : (set : List ℕ) → has ns id set ≡ joined var (has ns hi) (has ns lo) set

-- the sides of two families by the least of their variables
pub record AreSides (ns : List Node) (left right : NodeId) (s : Sides) : Type 0 where
  pub of_left : IsSplit ns s.var left.0 s.left_hi.0 s.left_lo.0
  pub of_right : IsSplit ns s.var right.0 s.right_hi.0 s.right_lo.0
  pub left_stands : stands Zbdd s.var ns left.0 ≡ true
  pub right_stands : stands Zbdd s.var ns right.0 ≡ true
  pub least : s.var ≡ pair_level ns left.0 right.0
  pub bound : s.var < MAX_LITERAL_NUMBERS

-- one of two nodes at least is there
abbrev pub OneIsInner : Option Node → Option Node → Type 0
OneIsInner None None = ⊥
OneIsInner None (Some n) = Unit {0}
OneIsInner (Some n) right = Unit {0}

-- the least variable of those of two nodes that are there
abbrev pub IsLeast : Option Node → Option Node → ℕ → Type 0
IsLeast None None var = ⊥
IsLeast None (Some n) var = var ≡ n.var
IsLeast (Some n) None var = var ≡ n.var
IsLeast (Some n) (Some m) var = var ≡ min n.var m.var

-- the id is the result in every table in which both operands stand
abbrev pub IsTrivial : Operation → ℕ → ℕ → ℕ → Type 0
IsTrivial operation left right id =
    (ns : List Node) → AllFit ns → stands Zbdd 0 ns left ≡ true → stands Zbdd 0 ns right ≡ true
    → IsResult operation NO_LIMIT ns left right id
