-- The steps to the prime implicants of a side that are none of both sides.
use Rattle.std.proofs.Common.{◌≡◌, ℕ, ◌+◌, ◌*◌, ◌<◌, ◌≤◌, Bool, true, List, Result, Ok, sym, ap, subst, ◌∙◌, arith, length}
use Rattle.std.proofs.lemmas.Bool.{false≢true}
use Rattle.psa_logic.specs.Products.{IsPrimeProduct}
use Rattle.psa_nodes.specs.declared.node.Kind.TheVariants.{Bdd, Zbdd}
use Rattle.psa_nodes.specs.declared.node.Node.{Node}
use Rattle.psa_nodes.specs.declared.node.NodeId.{NodeId}
use Rattle.psa_nodes.specs.declared.node.NodeError.{NodeError}
use Rattle.psa_nodes.specs.declared.node.TheConstants.{MAX_RANKS}
use Rattle.psa_nodes.specs.declared.node.Operation.TheVariants.{Primes, Without}
use Rattle.psa_nodes.specs.Readings.{truth, has, stands, level}
use Rattle.psa_nodes.specs.Nodes.{AllFit, Grown}
use Rattle.psa_nodes.specs.Table.{Table}
use Rattle.psa_nodes.specs.Tails.{IsMember, AreTailsOf}
use Rattle.psa_nodes.specs.Progress.{IsCall, IsResult}
use Rattle.psa_nodes.proofs.CallerLemmas.{stands-below, stands-kept, stands-terminal, stands-weaker, level-stands, truth-kept, truth-agree, has-zero, stands-above, call-then, call-wide}
use Rattle.psa_nodes.specs.Progress.{pair_level}
use Rattle.psa_families.specs.Operands.{AreApart}
use Rattle.psa_prime.specs.Primes.{IsPrimeOrigin, AreSidePrimes}
use Rattle.psa_prime.proofs.ImplicantLemmas.{Truth, prime-above}
use Rattle.psa_prime.proofs.DecompositionLemmas.{apart, left-primes, primes-apart}
use Rattle.psa_nodes.proofs.CallerLemmas.{result-kept}
use Rattle.psa_families.proofs.LevelLemmas.{pair-past}
use Rattle.psa_prime.proofs.OriginLemmas.{origin-tails}

-- what a call on a diagram does, with its answer
abbrev pub PrimeCalled : {A : Type 0} → ℕ → ℕ → Table → Table → Result A NodeError → Type 0
PrimeCalled root limit before now answer = IsCall (IsPrimeOrigin (truth before.nodes root) limit) (level before.nodes root) before now answer

-- the id is the family of the prime implicants within the limit
abbrev pub IsPrimes : List Node → ℕ → ℕ → ℕ → Type 0
IsPrimes ns root limit id = IsResult Primes limit ns root 0 id

-- the products of a truth that depends on the ranks past x alone stand past the literals of x
pub past-primes : (ns : List Node) → AllFit ns → (x root limit id : ℕ) → stands Bdd (x + 1) ns root ≡ true → IsPrimes ns root limit id → stands Zbdd (2 * x + 1 + 1) ns id ≡ true
past-primes ns fit x root limit id st r =
    stands-above ns fit (2 * x + 1) id r.stands_at (λ set m. prime-above x (truth ns root) (truth-agree ns fit (x + 1) root st) set ((r.computes set).0 m).prime)

module _ (old : Table) (fit : AllFit old.nodes) (var side both rest less limit : ℕ) (le : less ≤ limit) (bound : var < MAX_RANKS) (side_stands : stands Bdd (var + 1) old.nodes side ≡ true) (both_stands : stands Bdd (var + 1) old.nodes both ≡ true)
    (weaker : (s : ℕ → Bool) → truth old.nodes both s ≡ true → truth old.nodes side s ≡ true) (of_rest : IsPrimes old.nodes both limit rest) where
  abbrev Wide : {A : Type 0} → Table → Table → Result A NodeError → Type 0
  Wide before now answer = IsCall (IsPrimeOrigin (truth old.nodes side) less) (2 * var + 2) before now answer

  -- the side may be an operand
  pub side_zero : stands Bdd 0 old.nodes side ≡ true
  side_zero = stands-weaker Bdd (var + 1) 0 old.nodes side (omega arith) side_stands

  both_zero : stands Bdd 0 old.nodes both ≡ true
  both_zero = stands-weaker Bdd (var + 1) 0 old.nodes both (omega arith) both_stands

  -- past the variable
  pub past_side : 2 * var + 2 ≤ level old.nodes side
  past_side = let l : 2 * (var + 1) ≤ level old.nodes side = level-stands Bdd (var + 1) old.nodes side (omega (arith, bound)) side_stands in omega (arith, l)

  -- where the side is both sides, each of its implicants is one of both
  pub none-left : side ≡ both → AreSidePrimes old.nodes side both less 0
  none-left same = record {
    stands_at = stands-terminal Zbdd 0 old.nodes 0 (omega arith);
    reads = λ set. (
      λ m. absurd (false≢true (sym (has-zero old.nodes set) ∙ m)),
      λ p. absurd (p.other (λ s h. ap (λ (id : ℕ). truth old.nodes id s) (sym same) ∙ p.prime.prime.implicant s h)),
    );
  }

  -- the first call is a step
  pub first-step : {A : Type 0} (one : Table) (answer : Result A NodeError) → PrimeCalled side less old one answer → Wide old one answer
  first-step one answer call = call-wide past_side (λ k v r past o. o) answer call

  -- after the prime implicants of the side
  module _ (one : Table) (primes : NodeId) (first : PrimeCalled side less old one (Ok primes)) (of_primes : IsPrimes one.nodes side less primes.0) where
    one_fit : AllFit one.nodes
    one_fit = first.progress.table.fit

    abbrev grown : Grown old.nodes one.nodes
    grown = first.progress.nodes

    one_side : stands Bdd (var + 1) one.nodes side ≡ true
    one_side = stands-kept grown Bdd (var + 1) side side_stands

    one_both : stands Bdd (var + 1) one.nodes both ≡ true
    one_both = stands-kept grown Bdd (var + 1) both both_stands

    one_rest : IsPrimes one.nodes both limit rest
    one_rest =
        result-kept grown Primes limit one_fit both 0 rest
        (stands-below Bdd 0 old.nodes both both_zero) (stands-below Zbdd 0 old.nodes 0 (stands-terminal Zbdd 0 old.nodes 0 (omega arith))) of_rest

    one_weaker : (s : ℕ → Bool) → truth one.nodes both s ≡ true → truth one.nodes side s ≡ true
    one_weaker s h =
        truth-kept grown side s (stands-below Bdd 0 old.nodes side side_zero)
        ∙ weaker s (sym (truth-kept grown both s (stands-below Bdd 0 old.nodes both both_zero)) ∙ h)

    -- no prime implicant of the side includes another of both sides
    pub operands_apart : AreApart (has one.nodes primes.0) (has one.nodes rest)
    operands_apart = apart (truth one.nodes side) (truth one.nodes both) one_weaker less limit le (has one.nodes primes.0) (has one.nodes rest) of_primes.computes one_rest.computes

    -- none of both sides another of both
    pub rest_apart : AreApart (has one.nodes rest) (has one.nodes rest)
    rest_apart = primes-apart (truth one.nodes both) limit (has one.nodes rest) one_rest.computes

    -- these stay a family
    pub rest_stands : stands Zbdd 0 one.nodes rest ≡ true
    rest_stands = one_rest.stands_at

    past_pair : 2 * var + 2 ≤ pair_level one.nodes primes.0 rest
    past_pair =
        let p = pair-past one.nodes (2 * var + 1) primes.0 rest (omega (arith, bound))
        (past-primes one.nodes one_fit var side less primes.0 one_side of_primes) (past-primes one.nodes one_fit var both limit rest one_both one_rest) in
        omega (arith, p)

    its_prime : (set : List ℕ) → has one.nodes primes.0 set ≡ true → IsPrimeProduct (truth old.nodes side) less set
    its_prime set m =
        subst (λ (f : Truth). IsPrimeProduct f less set) (λ i s. truth-kept grown side s (stands-below Bdd 0 old.nodes side side_zero) i) ((of_primes.computes set).0 m)

    -- both steps are the call
    pub whole-side-call : {A : Type 0} (two : Table) (answer : Result A NodeError) → IsCall (AreTailsOf (IsMember (has one.nodes primes.0))) (pair_level one.nodes primes.0 rest) one two answer → Wide old two answer
    whole-side-call two answer call =
        call-then primes answer (first-step one (Ok primes) first)
        (call-wide past_pair (λ k v r past t. origin-tails (truth old.nodes side) less (has one.nodes primes.0) its_prime k v r t) answer call)

    -- after the difference
    module _ (two : Table) (g : Grown one.nodes two.nodes) (two_fit : AllFit two.nodes) (id : ℕ) (of_id : IsResult Without 0 two.nodes primes.0 rest id) where
      zero : 0 < length one.nodes + 2
      zero = omega arith

      two_primes : IsPrimes two.nodes side less primes.0
      two_primes = result-kept g Primes less two_fit side 0 primes.0 (stands-below Bdd (var + 1) one.nodes side one_side) zero of_primes

      two_rest : IsPrimes two.nodes both limit rest
      two_rest = result-kept g Primes limit two_fit both 0 rest (stands-below Bdd (var + 1) one.nodes both one_both) zero one_rest

      two_weaker : (s : ℕ → Bool) → truth two.nodes both s ≡ true → truth two.nodes side s ≡ true
      two_weaker s h =
          truth-kept g side s (stands-below Bdd (var + 1) one.nodes side one_side)
          ∙ one_weaker s (sym (truth-kept g both s (stands-below Bdd (var + 1) one.nodes both one_both)) ∙ h)

      -- what is left are the prime implicants of the side that both sides do not imply
      pub left : AreSidePrimes two.nodes side both less id
      left = record {
        stands_at = of_id.stands_at;
        reads =
            left-primes (truth two.nodes side) (truth two.nodes both) two_weaker less limit le (has two.nodes primes.0) (has two.nodes rest)
            two_primes.computes two_rest.computes (has two.nodes id) of_id.computes;
      }
