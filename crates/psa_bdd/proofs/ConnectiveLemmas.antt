-- A connective on truth values, and what its operation computes.
use Rattle.std.proofs.Common.{◌≡◌, ℕ, Bool, true, false, List, ◌&&◌, ◌||◌, if◌then◌else◌, refl, sym, ap, ◌∙◌, arith}
use Rattle.psa_nodes.specs.declared.node.Kind.TheVariants.{Bdd}
use Rattle.psa_nodes.specs.declared.node.Node.{Node}
use Rattle.psa_nodes.specs.Readings.{Reading, reading, truth, stands}
use Rattle.psa_nodes.specs.Nodes.{AllFit}
use Rattle.psa_nodes.specs.Operations.{Computes, operand_kind, result_kind, takes_right}
use Rattle.psa_nodes.specs.Progress.{IsResult}
use Rattle.psa_nodes.proofs.CallerLemmas.{only, truth-terminal, stands-terminal}
use Rattle.psa_bdd.specs.declared.connective.Connective.{Connective}
use Rattle.psa_bdd.specs.declared.connective.Connective.TheVariants.{And, Or}
use Rattle.psa_bdd.specs.Combined.{apply, operation_of, dominant_of, neutral_of}

-- the operation of a connective computes the connective of both truths
pub computes-from : (c : Connective) (limit : ℕ) (f g r : Reading) → ((s : ℕ → Bool) → r.as_truth s ≡ apply c (f.as_truth s) (g.as_truth s)) → Computes (operation_of c) limit f g r
computes-from And limit f g r h = h
computes-from Or limit f g r h = h

-- and nothing else
pub computes-to : (c : Connective) (limit : ℕ) (f g r : Reading) → Computes (operation_of c) limit f g r → (s : ℕ → Bool) → r.as_truth s ≡ apply c (f.as_truth s) (g.as_truth s)
computes-to And limit f g r h = h
computes-to Or limit f g r h = h

-- its operands are decision diagrams
pub operand-bdd : (c : Connective) → operand_kind (operation_of c) ≡ Bdd
operand-bdd And = refl
operand-bdd Or = refl

-- and so is its result
pub result-bdd : (c : Connective) → result_kind (operation_of c) ≡ Bdd
result-bdd And = refl
result-bdd Or = refl

-- it has a right operand
pub has-right : (c : Connective) → takes_right (operation_of c) ≡ true
has-right And = refl
has-right Or = refl

-- the order of the operands makes no difference
pub apply-comm : (c : Connective) (x y : Bool) → apply c x y ≡ apply c y x
apply-comm And true true = refl
apply-comm And true false = refl
apply-comm And false true = refl
apply-comm And false false = refl
apply-comm Or true true = refl
apply-comm Or true false = refl
apply-comm Or false true = refl
apply-comm Or false false = refl

-- a value combined with itself is itself
pub apply-own : (c : Connective) (x : Bool) → x ≡ apply c x x
apply-own And true = refl
apply-own And false = refl
apply-own Or true = refl
apply-own Or false = refl

-- a connective of decisions is the decision of its sides
pub apply-branch : (c : Connective) (b x y z w : Bool) → apply c (if b then x else y) (if b then z else w) ≡ (if b then apply c x z else apply c y w)
apply-branch c true x y z w = refl
apply-branch c false x y z w = refl

-- a node with the right reading is the result
pub is_result : (c : Connective) (ns : List Node) (left right id : ℕ) → AllFit ns → stands Bdd 0 ns id ≡ true → ((s : ℕ → Bool) → truth ns id s ≡ apply c (truth ns left s) (truth ns right s)) → IsResult (operation_of c) 0 ns left right id
is_result And ns left right id fit st h = record { stands_at = st; computes = h; only = only Bdd ns fit id st }
is_result Or ns left right id fit st h = record { stands_at = st; computes = h; only = only Bdd ns fit id st }

-- and a result reads so
pub result-stands : (c : Connective) (ns : List Node) (left right id : ℕ) → IsResult (operation_of c) 0 ns left right id → stands Bdd 0 ns id ≡ true
result-stands And ns left right id r = r.stands_at
result-stands Or ns left right id r = r.stands_at

-- the result reads as the connective of both
pub result-reads : (c : Connective) (ns : List Node) (left right id : ℕ) → IsResult (operation_of c) 0 ns left right id → (s : ℕ → Bool) → truth ns id s ≡ apply c (truth ns left s) (truth ns right s)
result-reads c ns left right id r = computes-to c 0 (reading ns left) (reading ns right) (reading ns id) r.computes

-- the terminals of a connective
module _ (ns : List Node) (left right : ℕ) (s : ℕ → Bool) where
  zero : (id : ℕ) → id ≡ 0 → truth ns id s ≡ false
  zero id e = rw e (truth-terminal ns 0 s (omega arith))

  one : (id : ℕ) → id ≡ 1 → truth ns id s ≡ true
  one id e = rw e (truth-terminal ns 1 s (omega arith))

  and-false : (x : Bool) → (x && false) ≡ false
  and-false true = refl
  and-false false = refl

  or-true : (x : Bool) → (x || true) ≡ true
  or-true true = refl
  or-true false = refl

  and-true : (x : Bool) → (x && true) ≡ x
  and-true true = refl
  and-true false = refl

  or-false : (x : Bool) → (x || false) ≡ x
  or-false true = refl
  or-false false = refl

  -- a left operand that decides is the result
  pub dominant-left : (c : Connective) (id : ℕ) → id ≡ (dominant_of c).0 → left ≡ id → truth ns id s ≡ apply c (truth ns left s) (truth ns right s)
  dominant-left And id d e = zero id d ∙ ap (λ x. x && truth ns right s) (sym (zero left (e ∙ d)))
  dominant-left Or id d e = one id d ∙ ap (λ x. x || truth ns right s) (sym (one left (e ∙ d)))

  -- and so is a right one
  pub dominant-right : (c : Connective) (id : ℕ) → id ≡ (dominant_of c).0 → right ≡ id → truth ns id s ≡ apply c (truth ns left s) (truth ns right s)
  dominant-right And id d e = zero id d ∙ sym (and-false (truth ns left s)) ∙ ap (λ x. truth ns left s && x) (sym (zero right (e ∙ d)))
  dominant-right Or id d e = one id d ∙ sym (or-true (truth ns left s)) ∙ ap (λ x. truth ns left s || x) (sym (one right (e ∙ d)))

  -- a left operand that is neutral leaves the right one
  pub neutral-left : (c : Connective) (id : ℕ) → id ≡ (neutral_of c).0 → left ≡ id → truth ns right s ≡ apply c (truth ns left s) (truth ns right s)
  neutral-left And id d e = ap (λ x. x && truth ns right s) (sym (one left (e ∙ d)))
  neutral-left Or id d e = ap (λ x. x || truth ns right s) (sym (zero left (e ∙ d)))

  -- and a right one leaves the left one
  pub neutral-right : (c : Connective) (id : ℕ) → id ≡ (neutral_of c).0 → right ≡ id → truth ns left s ≡ apply c (truth ns left s) (truth ns right s)
  neutral-right And id d e = sym (and-true (truth ns left s)) ∙ ap (λ x. truth ns left s && x) (sym (one right (e ∙ d)))
  neutral-right Or id d e = sym (or-false (truth ns left s)) ∙ ap (λ x. truth ns left s || x) (sym (zero right (e ∙ d)))

-- the terminal that decides stands
pub dominant-stands : (c : Connective) (ns : List Node) (id : ℕ) → id ≡ (dominant_of c).0 → stands Bdd 0 ns id ≡ true
dominant-stands And ns id d = stands-terminal Bdd 0 ns id (omega arith)
dominant-stands Or ns id d = stands-terminal Bdd 0 ns id (omega arith)
