-- The members of a family have no literals below its variable.
use Rattle.std.proofs.Common.{◌≡◌, ℕ, ◌+◌, ◌<◌, Bool, true, false, ◌==◌, nat_le, List, [], ◌∷◌, length, refl, inl, inr, arith, leb-true, ne_eqb, eq-eqb}
use Rattle.std.proofs.lemmas.Bool.{and_parts, and_right}
use Rattle.std.proofs.lemmas.Bool.Decides.{eqb_tells}
use Rattle.psa_nodes.specs.declared.node.Kind.TheVariants.{Zbdd}
use Rattle.psa_nodes.specs.declared.node.Node.{Node}
use Rattle.psa_nodes.specs.Readings.{next_id, has, joined, stands, same_kind}
use Rattle.psa_nodes.specs.Nodes.{AllFit}
use Rattle.psa_nodes.proofs.StandsLemmas.{same_kind-exact}

-- sides of a joined family
pub joined-own : (x : ℕ) (hi lo : List ℕ → Bool) (ys : List ℕ) → joined x hi lo (x ∷ ys) ≡ hi ys
joined-own x hi lo ys = rw (eq-eqb x x refl) refl

-- a set that begins otherwise is one of the low side
pub joined-other : (x : ℕ) (hi lo : List ℕ → Bool) (y : ℕ) (ys : List ℕ) → (y ≡ x → ⊥) → joined x hi lo (y ∷ ys) ≡ lo (y ∷ ys)
joined-other x hi lo y ys ne = rw (ne_eqb y x ne) refl

-- no set of a family that stands at v begins below v
pub has-below : (ns : List Node) → AllFit ns → (v id : ℕ) → stands Zbdd v ns id ≡ true → (y : ℕ) (ys : List ℕ) → y < v → has ns id (y ∷ ys) ≡ false
has-below [] fit v id h y ys lt = and_right (id == 1) false refl
has-below (n ∷ older) fit v id h y ys lt =
    elim (eqb_tells id (next_id older)) [
      | inl p ↦
          let parts = and_parts (same_kind n.kind Zbdd) (nat_le v n.var) (rw p.0 at h) in
          let kind = same_kind-exact n.kind Zbdd parts.0 in
          let from = leb-true v n.var parts.1 in
          rw p.0 (rw (ne_eqb y n.var (λ e. omega arith))
          (has-below older fit.1 (n.var + 1) n.lo.0 (rw kind at fit.0.lo) y ys (omega arith)))
      | inr p ↦ rw p.0 (has-below older fit.1 v id (rw p.0 at h) y ys lt)
    ]

-- the terminal 0 is the empty family
pub has-zero : (ns : List Node) (set : List ℕ) → has ns 0 set ≡ false
has-zero [] set = refl
has-zero (n ∷ older) set = rw (ne_eqb 0 (length older + 2) (λ e. omega arith)) (has-zero older set)
