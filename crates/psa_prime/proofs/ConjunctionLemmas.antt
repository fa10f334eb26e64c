-- Conjunctions of cofactors of a side of a decision are conjunctions of cofactors of the decision, and their
-- prime implicants are those of the decision's.
use Rattle.std.proofs.Common.{◌≡◌, ◌≢◌, ℕ, ◌+◌, ◌<◌, ◌≤◌, ◌&&◌, Bool, true, false, List, [], ◌∷◌, ◌++◌, if◌then◌else◌, refl, sym, ap, ap₂, ◌∙◌, inl, inr, arith}
use Rattle.std.proofs.lemmas.Bool.Decides.{leb_tells}
use Rattle.std.proofs.lemmas.List.Folds.{list_all-append}
use Rattle.psa_logic.specs.Products.{IsPrimeProduct}
use Rattle.psa_nodes.specs.Cofactors.{assigned, cofactor, all_hold, IsCofactorConjunction, IsPrimeOfCofactors}
use Rattle.psa_nodes.proofs.CallerLemmas.{assigned-past, fixed, high-cofactor, low-cofactor}
use Rattle.psa_prime.proofs.ImplicantLemmas.{Truth, DependsFrom}

-- each cofactor of g by the ranks below one past x is a conjunction of cofactors of f
pub record IsCofactorSide (x : ℕ) (f g : Truth) : Type 0 where
  pub from : DependsFrom (x + 1) g
  pub kept : (ℕ → Bool) → List (ℕ → Bool)
  pub some : (assignment : ℕ → Bool) → kept assignment ≢ []
  pub reads : (assignment : ℕ → Bool) (v : ℕ) → x < v → (s : ℕ → Bool) → cofactor g assignment v s ≡ all_hold f v (kept assignment) s

append-some : (xs ys : List (ℕ → Bool)) → xs ≢ [] → (xs ++ ys) ≢ []
append-some [] ys ne = absurd (ne refl)
append-some (x ∷ xs) ys ne = λ e. cc

module _ (x : ℕ) (f g : Truth) (side : IsCofactorSide x f g) where
  abbrev all_kept : List (ℕ → Bool) → List (ℕ → Bool)
  all_kept [] = []
  all_kept (a ∷ more) = side.kept a ++ all_kept more

  some-kept : (assignments : List (ℕ → Bool)) → assignments ≢ [] → all_kept assignments ≢ []
  some-kept [] ne = absurd (ne refl)
  some-kept (a ∷ more) ne = append-some (side.kept a) (all_kept more) (side.some a)

  hold-kept : (v w : ℕ) (s : ℕ → Bool) → ((a : ℕ → Bool) → cofactor g a v s ≡ all_hold f w (side.kept a) s) → (assignments : List (ℕ → Bool)) → all_hold g v assignments s ≡ all_hold f w (all_kept assignments) s
  hold-kept v w s each [] = refl
  hold-kept v w s each (a ∷ more) =
      ap₂ (λ (b c : Bool). b && c) (each a) (hold-kept v w s each more)
      ∙ sym (list_all-append (λ (assignment : ℕ → Bool). cofactor f assignment w s) (side.kept a) (all_kept more))

  -- below a rank up to that past x, g has nothing to fix
  early : (a : ℕ → Bool) (v : ℕ) → v ≤ x + 1 → (s : ℕ → Bool) → cofactor g a v s ≡ all_hold f (x + 1) (side.kept a) s
  early a v le s =
      side.from (assigned a v s) (assigned a (x + 1) s)
      (λ y past. assigned-past a s v y (omega (arith, le, past)) ∙ sym (assigned-past a s (x + 1) y past))
      ∙ side.reads a (x + 1) (omega arith) s

  -- conjunctions of cofactors of g by ranks past x are those of f
  pub side-cofactors : (v : ℕ) (truth : Truth) → x < v → IsCofactorConjunction g v truth → IsCofactorConjunction f v truth
  side-cofactors v truth lt c = record {
    assignments = all_kept c.assignments;
    some = some-kept c.assignments c.some;
    same = λ s. c.same s ∙ hold-kept v v s (λ a. side.reads a v lt s) c.assignments;
  }

  early-cofactors : (v : ℕ) (truth : Truth) → v ≤ x + 1 → IsCofactorConjunction g v truth → IsCofactorConjunction f (x + 1) truth
  early-cofactors v truth le c = record {
    assignments = all_kept c.assignments;
    some = some-kept c.assignments c.some;
    same = λ s. c.same s ∙ hold-kept v (x + 1) s (λ a. early a v le s) c.assignments;
  }

  -- prime implicants of conjunctions of cofactors of g are those of f's
  pub side-prime : (less limit : ℕ) → less ≤ limit → (set : List ℕ) → IsPrimeOfCofactors g less set → IsPrimeOfCofactors f limit set
  side-prime less limit le set p = elim (leb_tells p.below (x + 1)) [
    | inl q ↦ record { below = x + 1; truth = p.truth; cofactors = early-cofactors p.below p.truth q.1 p.cofactors; prime = record { prime = p.prime.prime; within = let w = p.prime.within in omega (arith, w, le) } }
    | inr q ↦ record { below = p.below; truth = p.truth; cofactors = side-cofactors p.below p.truth (omega (arith, q.1)) p.cofactors; prime = record { prime = p.prime.prime; within = let w = p.prime.within in omega (arith, w, le) } }
  ]

and-true : (b : Bool) → b ≡ (b && true)
and-true true = refl
and-true false = refl

-- the truth itself is the cofactor that fixes no rank
pub own-prime : (f : Truth) (limit : ℕ) (set : List ℕ) → IsPrimeProduct f limit set → IsPrimeOfCofactors f limit set
own-prime f limit set p = record {
  below = 0;
  truth = f;
  cofactors = record {
    assignments = none ∷ [];
    some = λ e. cc;
    same = λ s. ap f (λ i y. sym (assigned-past none s 0 y (omega arith)) i) ∙ and-true (cofactor f none 0 s);
  };
  prime = p;
}
  where
    none : ℕ → Bool
    none y = false

-- the sides of a decision
module _ (x : ℕ) (f f1 f0 : Truth) (is : (s : ℕ → Bool) → f s ≡ (if s x then f1 s else f0 s)) (from1 : DependsFrom (x + 1) f1) (from0 : DependsFrom (x + 1) f0) where
  -- the high side fixes the event as occurring
  pub high-cofactors : IsCofactorSide x f f1
  high-cofactors = record {
    from = from1;
    kept = λ a. fixed a x true ∷ [];
    some = λ a e. cc;
    reads = λ a v lt s. high-cofactor f f1 f0 x is a v lt from1 s ∙ and-true (cofactor f (fixed a x true) v s);
  }

  -- the low side as not occurring
  pub low-cofactors : IsCofactorSide x f f0
  low-cofactors = record {
    from = from0;
    kept = λ a. fixed a x false ∷ [];
    some = λ a e. cc;
    reads = λ a v lt s. low-cofactor f f1 f0 x is a v lt from0 s ∙ and-true (cofactor f (fixed a x false) v s);
  }

  -- and their conjunction
  both-reads : (a : ℕ → Bool) (v : ℕ) → x < v → (s : ℕ → Bool) → (cofactor f1 a v s && cofactor f0 a v s) ≡ all_hold f v (fixed a x true ∷ fixed a x false ∷ []) s
  both-reads a v lt s =
      ap₂ (λ (b c : Bool). b && c) (high-cofactor f f1 f0 x is a v lt from1 s)
      (low-cofactor f f1 f0 x is a v lt from0 s ∙ and-true (cofactor f (fixed a x false) v s))

  -- both together each way
  pub both-cofactors : (both : Truth) → ((s : ℕ → Bool) → both s ≡ (f1 s && f0 s)) → DependsFrom (x + 1) both → IsCofactorSide x f both
  both-cofactors both conj from = record {
    from = from;
    kept = λ a. fixed a x true ∷ fixed a x false ∷ [];
    some = λ a e. cc;
    reads = λ a v lt s. conj (assigned a v s) ∙ both-reads a v lt s;
  }

  -- a conjunction of cofactors of both sides by one assignment
  pub pair-cofactors : (a : ℕ → Bool) (v : ℕ) → x < v → (g : Truth) → ((s : ℕ → Bool) → g s ≡ (cofactor f1 a v s && cofactor f0 a v s)) → IsCofactorConjunction f v g
  pair-cofactors a v lt g same = record {
    assignments = fixed a x true ∷ fixed a x false ∷ [];
    some = λ e. cc;
    same = λ s. same s ∙ both-reads a v lt s;
  }
