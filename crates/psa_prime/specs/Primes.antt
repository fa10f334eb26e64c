-- Prime implicants of a decision diagram (Coudert and Madre): from where the nodes of their families come, what
-- they are remembered by, and what a side of a decision gives.
use Rattle.std.specs.Prelude.{◌≡◌, ◌↔◌, ℕ, Bool, true, List}
use Rattle.psa_logic.specs.Products.{IsImplicant, IsPrimeProduct}
use Rattle.psa_nodes.specs.declared.node.Kind.{Kind}
use Rattle.psa_nodes.specs.declared.node.Kind.TheVariants.{Bdd, Zbdd}
use Rattle.psa_nodes.specs.declared.node.Node.{Node}
use Rattle.psa_nodes.specs.declared.node.NodeId.{NodeId}
use Rattle.psa_nodes.specs.declared.node.MemoKey.{MemoKey}
use Rattle.psa_nodes.specs.declared.node.TheConstants.MemoKey.{NO_RIGHT}
use Rattle.psa_nodes.specs.declared.node.Operation.TheVariants.{Primes}
use Rattle.psa_nodes.specs.Readings.{Reading, truth, has, stands}
use Rattle.psa_nodes.specs.Cofactors.{IsCofactorConjunction, IsPrimeOfCofactors}
use Rattle.psa_nodes.specs.Tails.{AreTailsOf}

-- Where a node comes from: a decision diagram reads as a conjunction of cofactors by assignments of the ranks
-- below its variable; each member of a family is the tail, at its variable, of a prime implicant within the
-- limit of such a conjunction.
abbrev pub IsPrimeOrigin : ((ℕ → Bool) → Bool) → ℕ → Kind → ℕ → Reading → Type 0
IsPrimeOrigin f limit Bdd var r = IsCofactorConjunction f var r.as_truth
IsPrimeOrigin f limit Zbdd var r = AreTailsOf (IsPrimeOfCofactors f limit) Zbdd var r

-- what the prime implicants of a diagram within a limit are remembered by
abbrev pub prime_key : NodeId → ℕ → MemoKey
prime_key root limit = record { operation = Primes; left = root; right = NO_RIGHT; limit = limit }

-- A prime implicant of a side, of at most `limit` literals, that is no implicant of both sides.
pub record IsSidePrime (side both : (ℕ → Bool) → Bool) (limit : ℕ) (product : List ℕ) : Type 0 where
  pub prime : IsPrimeProduct side limit product
  pub other : IsImplicant both product → ⊥

-- the family of these
pub record AreSidePrimes (ns : List Node) (side both limit family : ℕ) : Type 0 where
  pub stands_at : stands Zbdd 0 ns family ≡ true
  pub reads :
      (set : List ℕ)
      → (has ns family set ≡ true) ↔ IsSidePrime (truth ns side) (truth ns both) limit set
