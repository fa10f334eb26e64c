-- The measure of the recursions: how far the operands stand before the end of all literals.
use Rattle.std.proofs.Common.{◌≡◌, ℕ, ◌+◌, ◌-◌, ◌^◌, ◌<◌, ◌≤◌, true, List, arith}
use Rattle.psa_nodes.specs.declared.node.Kind.TheVariants.{Zbdd}
use Rattle.psa_nodes.specs.declared.node.Node.{Node}
use Rattle.psa_nodes.specs.declared.node.TheConstants.{MAX_LITERAL_NUMBERS}
use Rattle.psa_nodes.specs.Readings.{stands, level}
use Rattle.psa_nodes.proofs.CallerLemmas.{level-stands}
use Rattle.psa_nodes.specs.Progress.{pair_level}

-- how far the operands stand before the end of all literals
abbrev pub left_above : List Node → ℕ → ℕ → ℕ
left_above ns left right = 2 ^ 33 - pair_level ns left right

-- operands that stand past a variable
pub pair-past : (ns : List Node) (var left right : ℕ) → var < MAX_LITERAL_NUMBERS → stands Zbdd (var + 1) ns left ≡ true → stands Zbdd (var + 1) ns right ≡ true → var + 1 ≤ pair_level ns left right
pair-past ns var left right lt sl sr =
    let l : var + 1 ≤ level ns left = level-stands Zbdd (var + 1) ns left (omega arith) sl in
    let r : var + 1 ≤ level ns right = level-stands Zbdd (var + 1) ns right (omega arith) sr in
    omega arith

-- are nearer the end
pub falls : (before now var : ℕ) → var ≡ before → var < MAX_LITERAL_NUMBERS → var + 1 ≤ now → 2 ^ 33 - now < 2 ^ 33 - before
falls before now var e lt le = omega arith
