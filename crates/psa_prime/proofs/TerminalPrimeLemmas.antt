-- The prime implicants of the terminals: none where the truth is false, the empty product where it is true; and the
-- empty product is one of no other diagram.
use Rattle.std.proofs.Common.{◌≡◌, ℕ, suc, ◌+◌, ◌*◌, ◌<◌, ◌≤◌, true, false, ◌==◌, ◌&&◌, List, [], ◌∷◌, length, refl, sym, subst, ◌∙◌, arith, ne_eqb}
use Rattle.std.proofs.lemmas.Bool.{false≢true, and_parts, and_from}
use Rattle.psa_logic.specs.Sets.{occurs}
use Rattle.psa_logic.specs.Products.{holds_at, IsImplicant, IsPrimeProduct}
use Rattle.psa_logic.proofs.PartLemmas.{part-nil}
use Rattle.psa_logic.proofs.LiteralLemmas.{consistent-holds, prime-part}
use Rattle.psa_nodes.specs.declared.node.Kind.TheVariants.{Bdd, Zbdd}
use Rattle.psa_nodes.specs.declared.node.Node.{Node}
use Rattle.psa_nodes.specs.declared.node.Operation.TheVariants.{Primes}
use Rattle.psa_nodes.specs.Readings.{truth, has, stands, is_empty}
use Rattle.psa_nodes.specs.Nodes.{AllFit}
use Rattle.psa_nodes.specs.Progress.{IsResult}
use Rattle.psa_nodes.proofs.CallerLemmas.{stands-terminal, truth-terminal, has-zero, canonical}
use Rattle.psa_nodes.proofs.CallerLemmas.{is_result}

has-terminal : (ns : List Node) (id : ℕ) (set : List ℕ) → id < 2 → has ns id set ≡ ((id == 1) && is_empty set)
has-terminal [] id set lt = refl
has-terminal (n ∷ older) id set lt = rw (ne_eqb id (length older + 2) (λ e. omega arith)) (has-terminal older id set lt)

module _ (ns : List Node) (root limit : ℕ) (lt : root < 2) where
  to-prime : (set : List ℕ) → has ns root set ≡ true → IsPrimeProduct (truth ns root) limit set
  to-prime [] m = record {
    prime = record {
      ascending = refl;
      consistent = refl;
      implicant = λ s h. truth-terminal ns root s lt ∙ (and_parts (root == 1) true (sym (has-terminal ns root [] lt) ∙ m)).0;
      prime = λ part h one i. absurd (none part one);
    };
    within = omega arith;
  }
    where
      none : (part : List ℕ) → suc (length part) ≡ 0 → ⊥
      none part one = omega (arith, one)
  to-prime (y ∷ ys) m = absurd (false≢true ((and_parts (root == 1) false (sym (has-terminal ns root (y ∷ ys) lt) ∙ m)).1))

  from-prime : (set : List ℕ) → IsPrimeProduct (truth ns root) limit set → has ns root set ≡ true
  from-prime set p =
      let holds : holds_at (λ rank. occurs set (2 * rank)) set ≡ true = consistent-holds set p.prime.consistent in
      let one : (root == 1) ≡ true = sym (truth-terminal ns root (λ rank. occurs set (2 * rank)) lt) ∙ p.prime.implicant (λ rank. occurs set (2 * rank)) holds in
      let empty : [] ≡ set = prime-part (truth ns root) set [] p.prime (part-nil set) (λ s h. truth-terminal ns root s lt ∙ one) in
      subst (λ (s : List ℕ). has ns root s ≡ true) empty (has-terminal ns root [] lt ∙ and_from (root == 1) true one refl)

  -- a terminal is the family of its own prime implicants
  pub terminal-primes : AllFit ns → IsResult Primes limit ns root 0 root
  terminal-primes fit =
      is_result Primes limit ns root 0 root fit (stands-terminal Zbdd 0 ns root lt) (λ set. (λ m. to-prime set m, λ p. from-prime set p))

-- the product of no literals is an implicant of the true diagram alone
pub no-primes : (ns : List Node) → AllFit ns → (root : ℕ) → 2 ≤ root → stands Bdd 0 ns root ≡ true → IsResult Primes 0 ns root 0 0
no-primes ns fit root inner st =
    is_result Primes 0 ns root 0 0 fit (stands-terminal Zbdd 0 ns 0 (omega arith))
    (λ set. (λ m. absurd (false≢true (sym (has-zero ns set) ∙ m)), λ p. absurd (none set p)))
  where
    always : IsImplicant (truth ns root) [] → ⊥
    always i =
        let one : root ≡ 1 = canonical Bdd ns fit root 1 st (stands-terminal Bdd 0 ns 1 (omega arith)) (λ s. i s refl ∙ sym (truth-terminal ns 1 s (omega arith))) in
        omega (arith, one, inner)

    none : (set : List ℕ) → IsPrimeProduct (truth ns root) 0 set → ⊥
    none [] p = always p.prime.implicant
    none (y ∷ ys) p = let w : length (y ∷ ys) ≤ 0 = p.within in omega (arith, w)
