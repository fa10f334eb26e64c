-- The families of the terminals.
use Rattle.std.proofs.Common.{◌≡◌, ℕ, ◌+◌, ◌<◌, true, false, ◌==◌, ◌&&◌, List, [], ◌∷◌, length, refl, sym, ◌∙◌, arith, ne_eqb}
use Rattle.std.proofs.lemmas.Bool.{false≢true, and_parts}
use Rattle.psa_nodes.specs.declared.node.Node.{Node}
use Rattle.psa_nodes.specs.Readings.{has, is_empty}

-- a terminal is the empty family or that of the empty set
pub has-terminal : (ns : List Node) (id : ℕ) (set : List ℕ) → id < 2 → has ns id set ≡ ((id == 1) && is_empty set)
has-terminal [] id set lt = refl
has-terminal (n ∷ older) id set lt = rw (ne_eqb id (length older + 2) (λ e. omega arith)) (has-terminal older id set lt)

-- a terminal has the empty set alone, if any
pub terminal-empty : (ns : List Node) (id : ℕ) → id < 2 → (set : List ℕ) → has ns id set ≡ true → set ≡ []
terminal-empty ns id lt [] m = refl
terminal-empty ns id lt (y ∷ ys) m = absurd (false≢true ((and_parts (id == 1) false (sym (has-terminal ns id (y ∷ ys) lt) ∙ m)).1))
