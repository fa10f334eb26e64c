-- The key of a result, whichever order its operands have.
use Rattle.std.proofs.Common.{◌≡◌, ℕ, Bool, true, nat_le, List, refl, sym, ◌∙◌, inl, inr, arith, true≢false}
use Rattle.std.proofs.lemmas.Bool.{cases_Bool}
use Rattle.psa_nodes.specs.declared.node.Kind.TheVariants.{Bdd}
use Rattle.psa_nodes.specs.declared.node.Node.{Node}
use Rattle.psa_nodes.specs.declared.node.NodeId.{NodeId}
use Rattle.psa_nodes.specs.Readings.{reading, truth, stands}
use Rattle.psa_nodes.specs.Nodes.{AllFit}
use Rattle.psa_nodes.specs.Table.{IsRight}
use Rattle.psa_nodes.specs.Progress.{pair_level, IsResult, key_level}
use Rattle.psa_bdd.specs.declared.connective.Connective.{Connective}
use Rattle.psa_bdd.specs.Combined.{apply, operation_of, key_of}
use Rattle.psa_bdd.proofs.ConnectiveLemmas.{computes-from, computes-to, operand-bdd, result-bdd, has-right, apply-comm, is_result, result-stands, result-reads}

module _ (c : Connective) (ns : List Node) (left right : NodeId) where
  -- a key with its operands in one order or the other
  right-ordered : (a b id : NodeId) → stands Bdd 0 ns a.0 ≡ true → stands Bdd 0 ns b.0 ≡ true → stands Bdd 0 ns id.0 ≡ true → ((s : ℕ → Bool) → truth ns id.0 s ≡ apply c (truth ns a.0 s) (truth ns b.0 s)) → IsRight ns (record { operation = operation_of c; left = a; right = b; limit = 0 }) id
  right-ordered a b id sa sb st h = record {
    no_right = λ e. absurd (true≢false (sym (has-right c) ∙ e));
    no_limit = λ e. refl;
    left_stands = rw (operand-bdd c) sa;
    right_stands = rw (operand-bdd c) sb;
    result_stands = rw (result-bdd c) st;
    computes = computes-from c 0 (reading ns a.0) (reading ns b.0) (reading ns id.0) h;
  }

  -- the result is a right entry under its key
  pub right-key : (id : NodeId) → stands Bdd 0 ns left.0 ≡ true → stands Bdd 0 ns right.0 ≡ true → IsResult (operation_of c) 0 ns left.0 right.0 id.0 → IsRight ns (key_of c left right) id
  right-key id sl sr r =
      let st = result-stands c ns left.0 right.0 id.0 r in
      let reads = result-reads c ns left.0 right.0 id.0 r in
      elim (cases_Bool (nat_le left.0 right.0)) [
        | inl p ↦ rw p (right-ordered left right id sl sr st reads)
        | inr p ↦ rw p (right-ordered right left id sr sl st (λ s. reads s ∙ apply-comm c (truth ns left.0 s) (truth ns right.0 s)))
      ]

  result-ordered : (a b id : NodeId) → AllFit ns → IsRight ns (record { operation = operation_of c; left = a; right = b; limit = 0 }) id → IsResult (operation_of c) 0 ns a.0 b.0 id.0
  result-ordered a b id fit r =
      is_result c ns a.0 b.0 id.0 fit (rw (result-bdd c) at r.result_stands) (computes-to c 0 (reading ns a.0) (reading ns b.0) (reading ns id.0) r.computes)

  -- a right entry under the key is the result
  pub result-key : (id : NodeId) → AllFit ns → IsRight ns (key_of c left right) id → IsResult (operation_of c) 0 ns left.0 right.0 id.0
  result-key id fit r =
      elim (cases_Bool (nat_le left.0 right.0)) [
        | inl p ↦ result-ordered left right id fit (rw p at r)
        | inr p ↦
            let back = result-ordered right left id fit (rw p at r) in
            is_result c ns left.0 right.0 id.0 fit (result-stands c ns right.0 left.0 id.0 back)
            (λ s. result-reads c ns right.0 left.0 id.0 back s ∙ apply-comm c (truth ns right.0 s) (truth ns left.0 s))
      ]

  -- a key stands where its operands do
  pub key-level : key_level ns (key_of c left right) ≡ pair_level ns left.0 right.0
  key-level =
      elim (cases_Bool (nat_le left.0 right.0)) [
        | inl p ↦ rw p refl
        | inr p ↦ rw p (omega arith)
      ]
