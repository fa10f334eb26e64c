-- Minimal cut sets of a side's cofactors are minimal cut sets of the truth's cofactors.
use Rattle.std.proofs.Common.{◌≡◌, ℕ, ◌+◌, ◌<◌, ◌≤◌, Bool, false, List, sym, ◌∙◌, inl, inr, arith}
use Rattle.std.proofs.lemmas.Bool.Decides.{leb_tells}
use Rattle.psa_logic.specs.Products.{IsCutProduct}
use Rattle.psa_nodes.specs.Cofactors.{assigned, cofactor, IsCutOfCofactor}
use Rattle.psa_nodes.proofs.CallerLemmas.{assigned-past}
use Rattle.psa_families.proofs.PositiveProductLemmas.{DependsFrom, cuts-same, cuts-within}

-- a minimal cut set of the truth itself is one of a cofactor that fixes no rank
pub own-cut : (f : (ℕ → Bool) → Bool) (limit : ℕ) (whole : List ℕ) → IsCutProduct f limit whole → IsCutOfCofactor f limit whole
own-cut f limit whole c = record {
  assignment = none;
  below = 0;
  cut = cuts-same f (cofactor f none 0) limit whole (λ s i. f (λ y. sym (assigned-past none s 0 y (omega arith)) i)) c;
}
  where
    none : ℕ → Bool
    none y = false

-- a side's cofactors are cofactors of the truth
module _ (x : ℕ) (f g : (ℕ → Bool) → Bool) (from : DependsFrom (x + 1) g) (kept : (ℕ → Bool) → ℕ → Bool)
    (co : (assignment : ℕ → Bool) (v : ℕ) → x < v → (s : ℕ → Bool) → cofactor g assignment v s ≡ cofactor f (kept assignment) v s) where
  early : (assignment : ℕ → Bool) (v : ℕ) → v ≤ x + 1 → (s : ℕ → Bool) → cofactor g assignment v s ≡ cofactor f (kept assignment) (x + 1) s
  early assignment v le s =
      from (assigned assignment v s) (assigned assignment (x + 1) s)
      (λ y past. assigned-past assignment s v y (omega (arith, le, past)) ∙ sym (assigned-past assignment s (x + 1) y past))
      ∙ co assignment (x + 1) (omega arith) s

  -- and so are their minimal cut sets
  pub side-cut : (less limit : ℕ) (whole : List ℕ) → less ≤ limit → IsCutOfCofactor g less whole → IsCutOfCofactor f limit whole
  side-cut less limit whole le t = elim (leb_tells t.below (x + 1)) [
    | inl p ↦ record {
      assignment = kept t.assignment;
      below = x + 1;
      cut = cuts-within (cofactor f (kept t.assignment) (x + 1)) less limit whole le (cuts-same (cofactor g t.assignment t.below) (cofactor f (kept t.assignment) (x + 1)) less whole (early t.assignment t.below p.1) t.cut);
    }
    | inr p ↦ record {
      assignment = kept t.assignment;
      below = t.below;
      cut = cuts-within (cofactor f (kept t.assignment) t.below) less limit whole le (cuts-same (cofactor g t.assignment t.below) (cofactor f (kept t.assignment) t.below) less whole (co t.assignment t.below (omega (arith, p.1))) t.cut);
    }
  ]
