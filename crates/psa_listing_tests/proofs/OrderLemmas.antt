-- How many literals the members of a family have at most.
use Rattle.std.proofs.Common.{◌≡◌, ℕ, ◌+◌, ◌-◌, ◌<◌, ◌≤◌, Bool, true, false, ◌==◌, List, [], ◌∷◌, length, sym, inl, inr, arith, ne_eqb, true≢false}
use Rattle.std.proofs.lemmas.Bool.{and_parts}
use Rattle.std.proofs.lemmas.Bool.Decides.{eqb_tells}
use Rattle.psa_nodes.specs.declared.node.Node.{Node}
use Rattle.psa_nodes.specs.Readings.{has, joined}

-- a member of a terminal has no literal
pub terminal-order : (ns : List Node) (id : ℕ) → id < 2 → (set : List ℕ) → has ns id set ≡ true → length set ≤ 0
terminal-order ns id terminal [] m = omega arith
terminal-order [] id terminal (y ∷ ys) m = absurd (true≢false (sym (and_parts (id == 1) false m).1))
terminal-order (n ∷ older) id terminal (y ∷ ys) m =
    terminal-order older id terminal (y ∷ ys) (rw (ne_eqb id (length older + 2) (λ e. omega (arith, terminal, e))) at m)

-- a member of a node has those of one side, and one more with the variable
pub joined-order : (x : ℕ) (hi lo : List ℕ → Bool) (limit : ℕ) → 0 < limit → ((set : List ℕ) → hi set ≡ true → length set ≤ limit - 1) → ((set : List ℕ) → lo set ≡ true → length set ≤ limit)
    → (set : List ℕ) → joined x hi lo set ≡ true → length set ≤ limit
joined-order x hi lo limit some high low [] m = low [] m
joined-order x hi lo limit some high low (y ∷ ys) m = elim (eqb_tells y x) [
  | inl p ↦ let r = high ys (rw p.0 at m) in omega (arith, r, some)
  | inr p ↦ low (y ∷ ys) (rw p.0 at m)
]
