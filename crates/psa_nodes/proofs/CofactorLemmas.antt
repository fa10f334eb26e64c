-- Cofactors of the sides of a decision are cofactors of the decision.
use Rattle.std.proofs.Common.{◌≡◌, ℕ, ◌<◌, ◌≤◌, Bool, true, false, if◌then◌else◌, refl, ap, ◌∙◌, inl, inr, arith, lt-ltb, le-ltb}
use Rattle.std.proofs.lemmas.Bool.Decides.{eqb_tells}
use Rattle.psa_nodes.specs.Cofactors.{assigned, cofactor}
use Rattle.psa_nodes.proofs.TruthLemmas.{fixed, IsBlind, high-side, low-side}

-- an assignment with x put in or out, where x is below the rank from which the set decides
assigned-fixed : (assignment s : ℕ → Bool) (x v : ℕ) (b : Bool) → x < v → (y : ℕ) → fixed (assigned assignment v s) x b y ≡ assigned (fixed assignment x b) v s y
assigned-fixed assignment s x v b lt y =
    elim (eqb_tells y x) [
      | inl p ↦ rw (p.0, lt-ltb y v (omega (arith, p.1))) refl
      | inr p ↦ rw p.0 refl
    ]

-- the assignment makes no difference above the ranks that it fixes
pub assigned-past : (assignment s : ℕ → Bool) (v y : ℕ) → v ≤ y → assigned assignment v s y ≡ s y
assigned-past assignment s v y le = rw (le-ltb y v le) refl

module _ (f hi lo : (ℕ → Bool) → Bool) (x : ℕ) (is : (s : ℕ → Bool) → f s ≡ (if s x then hi s else lo s)) (assignment : ℕ → Bool) (v : ℕ) (lt : x < v) where
  -- a cofactor of the high side is the cofactor of the decision with the variable put in
  pub high-cofactor : IsBlind x hi → (s : ℕ → Bool) → cofactor hi assignment v s ≡ cofactor f (fixed assignment x true) v s
  high-cofactor blind s =
      high-side f hi lo x is blind (assigned assignment v s)
      ∙ ap f (λ i y. assigned-fixed assignment s x v true lt y i)

  -- and one of the low side, with the variable put out
  pub low-cofactor : IsBlind x lo → (s : ℕ → Bool) → cofactor lo assignment v s ≡ cofactor f (fixed assignment x false) v s
  low-cofactor blind s =
      low-side f hi lo x is blind (assigned assignment v s)
      ∙ ap f (λ i y. assigned-fixed assignment s x v false lt y i)
