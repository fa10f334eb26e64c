-- What the result of an operation on families is made of, before it is remembered.
use Rattle.std.specs.Prelude.{◌≡◌, ℕ, ◌+◌, ◌≤◌, ◌<◌, true, false, List}
use Rattle.psa_nodes.specs.declared.node.Kind.TheVariants.{Zbdd}
use Rattle.psa_nodes.specs.declared.node.Node.{Node}
use Rattle.psa_nodes.specs.declared.node.MemoKey.{MemoKey}
use Rattle.psa_nodes.specs.declared.node.TheConstants.{MAX_LITERAL_NUMBERS}
use Rattle.psa_nodes.specs.declared.node.TheConstants.MemoKey.{NO_RIGHT, NO_LIMIT}
use Rattle.psa_nodes.specs.Readings.{reading, branch, stands}
use Rattle.psa_nodes.specs.Operations.{operand_kind, result_kind, takes_right, takes_limit, Computes}
use Rattle.psa_nodes.specs.Progress.{key_level}

-- The sides that the result of a key is made of: the family with the variable and the one without it.
pub record IsReady (ns : List Node) (key : MemoKey) (var hi lo : ℕ) : Type 0 where
  pub bounded : var < MAX_LITERAL_NUMBERS
  pub no_right : takes_right key.operation ≡ false → key.right ≡ NO_RIGHT
  pub no_limit : takes_limit key.operation ≡ false → key.limit ≡ NO_LIMIT
  pub left_stands : stands (operand_kind key.operation) 0 ns key.left.0 ≡ true
  pub right_stands : stands (operand_kind key.operation) 0 ns key.right.0 ≡ true
  pub of_family : result_kind key.operation ≡ Zbdd
  pub past : var ≤ key_level ns key
  pub hi_stands : stands Zbdd (var + 1) ns hi ≡ true
  pub lo_stands : stands Zbdd (var + 1) ns lo ≡ true
  pub computes : Computes key.operation key.limit
      (reading ns key.left.0) (reading ns key.right.0) (branch var (reading ns hi) (reading ns lo))
