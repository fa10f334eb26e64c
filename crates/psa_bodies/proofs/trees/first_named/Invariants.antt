use Rattle.std.proofs.Common.{◌≡◌, ◌<◌, ℕ, false}
use Rattle.psa_bodies.specs.Trees.{tree_has_name}
use Rattle.psa_bodies.proofs.trees.first_named.Given as goal

abbrev pub invariant-loop-number : goal.invariant-loop-number
invariant-loop-number l = (k : ℕ) → k < l.number → tree_has_name l.draft.definitions l.trees l.name k ≡ false
