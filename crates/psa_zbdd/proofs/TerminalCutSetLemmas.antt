-- The minimal cut sets of the terminals: none where the truth is false, the empty set where it is true.
use Rattle.std.proofs.Common.{◌≡◌, ℕ, ◌<◌, true, false, ◌==◌, List, [], ◌∷◌, refl, sym, ap, subst, ◌∙◌, arith}
use Rattle.std.proofs.lemmas.Bool.{false≢true, and_parts, and_from}
use Rattle.psa_logic.specs.Sets.{is_part, occurs}
use Rattle.psa_logic.specs.Products.{positive_product, IsCutProduct}
use Rattle.psa_logic.proofs.PartLemmas.{part-nil}
use Rattle.psa_nodes.specs.declared.node.Kind.TheVariants.{Zbdd}
use Rattle.psa_nodes.specs.declared.node.Node.{Node}
use Rattle.psa_nodes.specs.declared.node.Operation.TheVariants.{MinimalOfBdd}
use Rattle.psa_nodes.specs.Readings.{truth, has}
use Rattle.psa_nodes.specs.Nodes.{AllFit}
use Rattle.psa_nodes.specs.Progress.{IsResult}
use Rattle.psa_nodes.proofs.CallerLemmas.{stands-terminal, truth-terminal}
use Rattle.psa_nodes.proofs.CallerLemmas.{is_result}
use Rattle.psa_families.proofs.TerminalLemmas.{has-terminal}

-- the cut sets of a terminal
module _ (ns : List Node) (root limit : ℕ) (lt : root < 2) where
  to-cut : (set : List ℕ) → has ns root set ≡ true → IsCutProduct (truth ns root) limit set
  to-cut [] m = record {
    set = [];
    is_set = refl;
    minimal = record {
      ascending = refl;
      minimal = record { cuts = truth-terminal ns root (occurs []) lt ∙ (and_parts (root == 1) true (sym (has-terminal ns root [] lt) ∙ m)).0; least = least };
    };
    within = omega arith;
  }
    where
      least : (part : List ℕ) → is_part part [] ≡ true → truth ns root (occurs part) ≡ true → part ≡ []
      least [] h c = refl
      least (t ∷ ts) h c = absurd (false≢true h)
  to-cut (y ∷ ys) m = absurd (false≢true ((and_parts (root == 1) false (sym (has-terminal ns root (y ∷ ys) lt) ∙ m)).1))

  from-cut : (set : List ℕ) → IsCutProduct (truth ns root) limit set → has ns root set ≡ true
  from-cut set c =
      let one : (root == 1) ≡ true = sym (truth-terminal ns root (occurs c.set) lt) ∙ c.minimal.minimal.cuts in
      let empty : [] ≡ c.set = c.minimal.minimal.least [] (part-nil c.set) (truth-terminal ns root (occurs []) lt ∙ one) in
      let none : [] ≡ set = ap (λ (s : List ℕ). positive_product s) empty ∙ sym c.is_set in
      subst (λ (s : List ℕ). has ns root s ≡ true) none (has-terminal ns root [] lt ∙ and_from (root == 1) true one refl)

  -- a terminal of a diagram is the family of its own cut sets
  pub terminal-cuts : AllFit ns → IsResult MinimalOfBdd limit ns root 0 root
  terminal-cuts fit =
      is_result MinimalOfBdd limit ns root 0 root fit (stands-terminal Zbdd 0 ns root lt) (λ set. (λ m. to-cut set m, λ c. from-cut set c))
