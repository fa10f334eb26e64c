-- The product with the empty family, and of the family of the empty set with itself; what goes with a variable.
use Rattle.std.proofs.Common.{◌≡◌, ℕ, ◌+◌, ◌%◌, ◌<◌, ◌==◌, ◌||◌, true, false, List, [], ◌∷◌, Some, refl, sym, ap, subst, ◌∙◌, inl, inr, arith, ne_eqb}
use Rattle.std.proofs.lemmas.Bool.{false≢true}
use Rattle.std.proofs.lemmas.Bool.Decides.{eqb_tells}
use Rattle.psa_logic.specs.Sets.{all_above, occurs}
use Rattle.psa_logic.specs.Products.{is_positive}
use Rattle.psa_logic.proofs.PartLemmas.{eqb-same, all_above-occurs}
use Rattle.psa_nodes.specs.declared.node.Kind.TheVariants.{Zbdd}
use Rattle.psa_nodes.specs.declared.node.Node.{Node}
use Rattle.psa_nodes.specs.declared.node.Operation.TheVariants.{Product}
use Rattle.psa_nodes.specs.Families.{IsProductMember}
use Rattle.psa_nodes.specs.Readings.{node_at, has, stands}
use Rattle.psa_nodes.specs.Nodes.{AllFit}
use Rattle.psa_nodes.specs.Progress.{IsResult}
use Rattle.psa_nodes.proofs.CallerLemmas.{has-zero, stands-terminal, stands-weaker, stands-at}
use Rattle.psa_families.specs.Sides.{IsSplit}
use Rattle.psa_zbdd.specs.FamilyProducts.{IsClear}
use Rattle.psa_nodes.proofs.CallerLemmas.{above-stands}
use Rattle.psa_families.proofs.SidesLemmas.{split-own, low-member}
use Rattle.psa_nodes.proofs.CallerLemmas.{is_result}
use Rattle.psa_families.proofs.TerminalLemmas.{has-terminal, terminal-empty}

module _ (ns : List Node) (fit : AllFit ns) (left right limit : ℕ) where
  pub product-nothing-left : left ≡ 0 → IsResult Product limit ns left right 0
  product-nothing-left e =
      is_result Product limit ns left right 0 fit (stands-terminal Zbdd 0 ns 0 (omega arith))
      (λ set. (λ m. absurd (false≢true (sym (has-zero ns set) ∙ m)), λ p. absurd (false≢true (sym (none p.left) ∙ p.of_first))))
    where
      none : (set : List ℕ) → has ns left set ≡ false
      none set = ap (λ (x : ℕ). has ns x set) e ∙ has-zero ns set

  pub product-nothing-right : right ≡ 0 → IsResult Product limit ns left right 0
  product-nothing-right e =
      is_result Product limit ns left right 0 fit (stands-terminal Zbdd 0 ns 0 (omega arith))
      (λ set. (λ m. absurd (false≢true (sym (has-zero ns set) ∙ m)), λ p. absurd (false≢true (sym (none p.right) ∙ p.of_second))))
    where
      none : (set : List ℕ) → has ns right set ≡ false
      none set = ap (λ (x : ℕ). has ns x set) e ∙ has-zero ns set

-- the family of the empty set has no other
only-empty : (ns : List Node) (set : List ℕ) → has ns 1 set ≡ true → set ≡ []
only-empty ns set m = terminal-empty ns 1 (omega arith) set m

no-item : (set : List ℕ) → ((x : ℕ) → occurs set x ≡ false) → set ≡ []
no-item [] none = refl
no-item (y ∷ ys) none = absurd (false≢true (sym (none y) ∙ own y ys))
  where
    own : (y : ℕ) (ys : List ℕ) → occurs (y ∷ ys) y ≡ true
    own y ys = rw (eqb-same y) refl

pub product-ones : (ns : List Node) → AllFit ns → (limit : ℕ) → IsResult Product limit ns 1 1 1
product-ones ns fit limit =
    is_result Product limit ns 1 1 1 fit (stands-terminal Zbdd 0 ns 1 (omega arith)) (λ set. (to set, from set))
  where
    one : has ns 1 [] ≡ true
    one = has-terminal ns 1 [] (omega arith)

    empty : IsProductMember (has ns 1) (has ns 1) limit []
    empty = record {
      left = [];
      right = [];
      of_first = one;
      of_second = one;
      union = record { ascending = refl; members = λ x. refl };
      consistent = refl;
      within = omega arith;
    }

    to : (set : List ℕ) → has ns 1 set ≡ true → IsProductMember (has ns 1) (has ns 1) limit set
    to set m = subst (λ (l : List ℕ). IsProductMember (has ns 1) (has ns 1) limit l) (sym (only-empty ns set m)) empty

    from : (set : List ℕ) → IsProductMember (has ns 1) (has ns 1) limit set → has ns 1 set ≡ true
    from set p =
        let l : p.left ≡ [] = only-empty ns p.left p.of_first in
        let r : p.right ≡ [] = only-empty ns p.right p.of_second in
        subst (λ (s : List ℕ). has ns 1 s ≡ true)
        (sym (no-item set (λ x. p.union.members x ∙ ap (λ (m : List ℕ). occurs m x || occurs p.right x) l ∙ ap (λ (m : List ℕ). occurs m x) r))) one

-- a side with no opposite literal is clear already
pub clear-own : (ns : List Node) (var id : ℕ) → stands Zbdd (var + 1) ns id ≡ true → ((set : List ℕ) → has ns id set ≡ true → is_positive var ≡ true → occurs set (var + 1) ≡ false) → IsClear ns var id id
clear-own ns var id st none = record { clear_stands = st; are = λ set. (λ m. (m, λ even. none set m even), λ p. p.0) }

-- where the literal is of an event that does not occur
pub clear-negative : (ns : List Node) (var id : ℕ) → stands Zbdd (var + 1) ns id ≡ true → var % 2 ≡ 1 → IsClear ns var id id
clear-negative ns var id st odd =
    clear-own ns var id st (λ set m even. absurd (false≢true (sym (ne_eqb (var % 2) 0 (λ e. omega (arith, odd, e))) ∙ even)))

-- a family that stands past the opposite literal
pub clear-past : (ns : List Node) → AllFit ns → (var id : ℕ) → stands Zbdd (var + 1 + 1) ns id ≡ true → IsClear ns var id id
clear-past ns fit var id st =
    clear-own ns var id (stands-weaker Zbdd (var + 1 + 1) (var + 1) ns id (omega arith) st)
    (λ set m even. all_above-occurs (var + 1) set (above-stands ns fit (var + 1) id st set m))

-- else its side without that literal
pub clear-low : (ns : List Node) → AllFit ns → (var id : ℕ) (n : Node) → node_at ns id ≡ Some n → stands Zbdd (var + 1) ns id ≡ true → n.var ≡ var + 1 → var % 2 ≡ 0 → IsClear ns var id n.lo.0
clear-low ns fit var id n there st same even = record { clear_stands = low_stands; are = λ set. (to set, from set) }
  where
    sides : IsSplit ns n.var id n.hi.0 n.lo.0
    sides = split-own ns id n fit there (stands-at Zbdd (var + 1) ns id n st there).0

    low_stands : stands Zbdd (var + 1) ns n.lo.0 ≡ true
    low_stands = stands-weaker Zbdd (n.var + 1) (var + 1) ns n.lo.0 (omega (arith, same)) sides.lo_stands

    low_above : (set : List ℕ) → has ns n.lo.0 set ≡ true → all_above (var + 1) set ≡ true
    low_above set m = subst (λ (v : ℕ). all_above v set ≡ true) same (above-stands ns fit n.var n.lo.0 sides.lo_stands set m)

    to : (set : List ℕ) → has ns n.lo.0 set ≡ true → (has ns id set ≡ true) × (is_positive var ≡ true → occurs set (var + 1) ≡ false)
    to set m = (low-member ns fit n.var id n.hi.0 n.lo.0 sides set m, λ e. all_above-occurs (var + 1) set (low_above set m))

    from : (set : List ℕ) → (has ns id set ≡ true) × (is_positive var ≡ true → occurs set (var + 1) ≡ false) → has ns n.lo.0 set ≡ true
    from [] p = sym (sides.reads []) ∙ p.0
    from (y ∷ ys) p = elim (eqb_tells y n.var) [
      | inl q ↦
          let headed : occurs (y ∷ ys) (var + 1) ≡ true = rw (own y (q.1 ∙ same)) refl in
          absurd (false≢true (sym (p.1 positive) ∙ headed))
      | inr q ↦ rw q.0 at (sym (sides.reads (y ∷ ys)) ∙ p.0)
    ]
      where
        positive : is_positive var ≡ true
        positive = subst (λ (m : ℕ). (m == 0) ≡ true) (sym even) refl

        own : (y : ℕ) → y ≡ var + 1 → (y == var + 1) ≡ true
        own y e = ap (λ z. z == var + 1) e ∙ eqb-same (var + 1)

pub clear-terminal : (ns : List Node) → AllFit ns → (var id : ℕ) → id < 2 → IsClear ns var id id
clear-terminal ns fit var id lt = clear-past ns fit var id (stands-terminal Zbdd (var + 1 + 1) ns id lt)
