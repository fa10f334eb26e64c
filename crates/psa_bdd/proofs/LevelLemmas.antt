-- The measure of the recursion: how far the operands stand before the end of all literals.
use Rattle.std.proofs.Common.{◌≡◌, ℕ, ◌+◌, ◌-◌, ◌*◌, ◌^◌, ◌<◌, ◌≤◌, true, List, arith}
use Rattle.psa_nodes.specs.declared.node.Kind.TheVariants.{Bdd}
use Rattle.psa_nodes.specs.declared.node.Node.{Node}
use Rattle.psa_nodes.specs.declared.node.TheConstants.{MAX_RANKS}
use Rattle.psa_nodes.specs.Readings.{stands, level}
use Rattle.psa_nodes.proofs.CallerLemmas.{level-stands}
use Rattle.psa_nodes.specs.Progress.{pair_level}

-- how far the operands stand before the end of all literals
abbrev pub left_above : List Node → ℕ → ℕ → ℕ
left_above ns left right = 2 ^ 33 - pair_level ns left right

-- operands that stand past a variable
pub pair-past : (ns : List Node) (var left right : ℕ) → var < MAX_RANKS → stands Bdd (var + 1) ns left ≡ true → stands Bdd (var + 1) ns right ≡ true → 2 * var + 2 ≤ pair_level ns left right
pair-past ns var left right lt sl sr =
    let l : 2 * (var + 1) ≤ level ns left = level-stands Bdd (var + 1) ns left (omega arith) sl in
    let r : 2 * (var + 1) ≤ level ns right = level-stands Bdd (var + 1) ns right (omega arith) sr in
    omega arith

-- are nearer the end
pub falls : (before now var : ℕ) → 2 * var ≡ before → var < MAX_RANKS → 2 * var + 2 ≤ now → 2 ^ 33 - now < 2 ^ 33 - before
falls before now var e lt le = omega arith
