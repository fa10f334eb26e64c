-- Where the nodes of the steps come from, as steps of a call on the decision.
use Rattle.std.proofs.Common.{◌≡◌, ℕ, ◌+◌, ◌*◌, ◌≤◌, Bool, true, List, if◌then◌else◌, arith}
use Rattle.psa_logic.specs.Products.{IsPrimeProduct}
use Rattle.psa_nodes.specs.declared.node.Kind.{Kind}
use Rattle.psa_nodes.specs.declared.node.Kind.TheVariants.{Bdd, Zbdd}
use Rattle.psa_nodes.specs.Readings.{Reading, first_literal}
use Rattle.psa_nodes.specs.Tails.{IsMember, AreTailsOf}
use Rattle.psa_nodes.proofs.CallerLemmas.{tails-in}
use Rattle.psa_bdd.specs.declared.connective.Connective.TheVariants.{And}
use Rattle.psa_bdd.specs.Combined.{IsCofactors}
use Rattle.psa_nodes.specs.Cofactors.{IsPrimeOfCofactors}
use Rattle.psa_prime.specs.Primes.{IsPrimeOrigin}
use Rattle.psa_prime.proofs.ImplicantLemmas.{Truth, DependsFrom}
use Rattle.psa_prime.proofs.ConjunctionLemmas.{IsCofactorSide, side-cofactors, side-prime, own-prime, pair-cofactors}

-- a node from a side is one from the decision
pub origin-side : (x : ℕ) (f g : Truth) → IsCofactorSide x f g → (less limit : ℕ) → less ≤ limit → (k : Kind) (v : ℕ) (r : Reading) → 2 * x + 2 ≤ first_literal k v → IsPrimeOrigin g less k v r → IsPrimeOrigin f limit k v r
origin-side x f g side less limit le Bdd v r past o = side-cofactors x f g side v r.as_truth (omega (arith, past)) o
origin-side x f g side less limit le Zbdd v r past o =
    tails-in (IsPrimeOfCofactors f limit) (IsPrimeOfCofactors g less) (side-prime x f g side less limit le) Zbdd v r o

-- one of the conjunction of both sides
pub origin-both : (x : ℕ) (f f1 f0 : Truth) → ((s : ℕ → Bool) → f s ≡ (if s x then f1 s else f0 s)) → DependsFrom (x + 1) f1 → DependsFrom (x + 1) f0 → (limit : ℕ) (k : Kind) (v : ℕ) (r : Reading) → 2 * x + 2 ≤ first_literal k v → IsCofactors And f1 f0 k v r → IsPrimeOrigin f limit k v r
origin-both x f f1 f0 is from1 from0 limit Bdd v r past o = pair-cofactors x f f1 f0 is from1 from0 o.assignment v (omega (arith, past)) r.as_truth o.reads
origin-both x f f1 f0 is from1 from0 limit Zbdd v r past o = absurd (differ o.of_bdd)
  where
    differ : Zbdd ≡ Bdd → ⊥
    differ e = cc

-- one of tails of prime implicants of the truth itself
pub origin-tails : (f : Truth) (limit : ℕ) (source : List ℕ → Bool) → ((set : List ℕ) → source set ≡ true → IsPrimeProduct f limit set) → (k : Kind) (v : ℕ) (r : Reading) → AreTailsOf (IsMember source) k v r → IsPrimeOrigin f limit k v r
origin-tails f limit source are Bdd v r t = absurd (differ t.of_zbdd)
  where
    differ : Bdd ≡ Zbdd → ⊥
    differ e = cc
origin-tails f limit source are Zbdd v r t =
    tails-in (IsPrimeOfCofactors f limit) (IsMember source) (λ set m. own-prime f limit set (are set m)) Zbdd v r t
