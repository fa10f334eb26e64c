-- Results over grown nodes, of remembered entries and of made nodes.
use Rattle.std.proofs.Common.{◌≡◌, ℕ, ◌+◌, ◌<◌, true, List, length, ◌∙◌, sym, subst, arith}
use Rattle.psa_nodes.specs.declared.node.Kind.TheVariants.{Bdd, Zbdd}
use Rattle.psa_nodes.specs.declared.node.Node.{Node}
use Rattle.psa_nodes.specs.declared.node.NodeId.{NodeId}
use Rattle.psa_nodes.specs.declared.node.MemoKey.{MemoKey}
use Rattle.psa_nodes.specs.declared.node.Operation.{Operation}
use Rattle.psa_nodes.specs.declared.node.Operation.TheVariants.{And, Or, Union, Product, Without, Positive, MinimalSets, MinimalOfBdd, Primes}
use Rattle.psa_nodes.specs.Readings.{Reading, reading, branch, has, joined, stands}
use Rattle.psa_nodes.specs.Nodes.{AllFit, Grown}
use Rattle.psa_nodes.specs.Operations.{Computes, operand_kind, result_kind}
use Rattle.psa_nodes.specs.Table.{IsRight}
use Rattle.psa_nodes.specs.Progress.{IsResult}
use Rattle.psa_nodes.proofs.StandsLemmas.{stands-below, stands-weaker}
use Rattle.psa_nodes.proofs.GrownLemmas.{stands-kept, reading-kept}
use Rattle.psa_nodes.proofs.CanonicalLemmas.{only}
use Rattle.psa_nodes.specs.Making.{IsReady}

bdd_zbdd : Bdd ≡ Zbdd → ⊥
bdd_zbdd e = cc

-- families with the same members are the same result
pub computes-same : (op : Operation) → result_kind op ≡ Zbdd → (limit : ℕ) (left right a b : Reading) → ((set : List ℕ) → a.as_family set ≡ b.as_family set) → Computes op limit left right b → Computes op limit left right a
computes-same And k limit left right a b same h = absurd (bdd_zbdd k)
computes-same Or k limit left right a b same h = absurd (bdd_zbdd k)
computes-same Union k limit left right a b same h = λ set. same set ∙ h set
computes-same Product k limit left right a b same h = λ set. (λ e. (h set).0 (sym (same set) ∙ e), λ p. same set ∙ (h set).1 p)
computes-same Without k limit left right a b same h = λ set. (λ e. (h set).0 (sym (same set) ∙ e), λ p. same set ∙ (h set).1 p)
computes-same Positive k limit left right a b same h = λ set. (λ e. (h set).0 (sym (same set) ∙ e), λ p. same set ∙ (h set).1 p)
computes-same MinimalSets k limit left right a b same h = λ set. (λ e. (h set).0 (sym (same set) ∙ e), λ p. same set ∙ (h set).1 p)
computes-same MinimalOfBdd k limit left right a b same h = λ set. (λ e. (h set).0 (sym (same set) ∙ e), λ p. same set ∙ (h set).1 p)
computes-same Primes k limit left right a b same h = λ set. (λ e. (h set).0 (sym (same set) ∙ e), λ p. same set ∙ (h set).1 p)

-- an id that computes the operation is its result
pub is_result : (op : Operation) (limit : ℕ) (ns : List Node) (left right id : ℕ) → AllFit ns → stands (result_kind op) 0 ns id ≡ true → Computes op limit (reading ns left) (reading ns right) (reading ns id) → IsResult op limit ns left right id
is_result op limit ns left right id fit st h = record { stands_at = st; computes = h; only = only (result_kind op) ns fit id st }

-- a right entry is a result
pub remembered-result : (ns : List Node) (key : MemoKey) (id : NodeId) → AllFit ns → IsRight ns key id → IsResult key.operation key.limit ns key.left.0 key.right.0 id.0
remembered-result ns key id fit r = is_result key.operation key.limit ns key.left.0 key.right.0 id.0 fit r.result_stands r.computes

-- over grown nodes
module _ {before now : List Node} (g : Grown before now) (op : Operation) (limit : ℕ) where
  operands-kept : (left right : ℕ) (r : Reading) → left < length before + 2 → right < length before + 2 → Computes op limit (reading before left) (reading before right) r → Computes op limit (reading now left) (reading now right) r
  operands-kept left right r l k h =
      subst (λ (x : Reading). Computes op limit (reading now left) x r) (sym (reading-kept g right k))
      (subst (λ (x : Reading). Computes op limit x (reading before right) r) (sym (reading-kept g left l)) h)

  -- a result stays one when nodes are added
  pub result-kept : AllFit now → (left right id : ℕ) → left < length before + 2 → right < length before + 2 → IsResult op limit before left right id → IsResult op limit now left right id
  result-kept fit left right id l k r =
      is_result op limit now left right id fit (stands-kept g (result_kind op) 0 id r.stands_at)
      (operands-kept left right (reading now id) l k
      (subst (λ (x : Reading). Computes op limit (reading before left) (reading before right) x)
      (sym (reading-kept g id (stands-below (result_kind op) 0 before id r.stands_at))) r.computes))

-- the node of the sides of a result is the result
pub made-right : {before now : List Node} → Grown before now → AllFit now → (key : MemoKey) (var : ℕ) (hi lo : ℕ) (id : NodeId) → IsReady before key var hi lo → stands Zbdd var now id.0 ≡ true → ((set : List ℕ) → has now id.0 set ≡ joined var (has before hi) (has before lo) set) → IsRight now key id
made-right {before} {now} g fit key var hi lo id ready st is = record {
  no_right = ready.no_right;
  no_limit = ready.no_limit;
  left_stands = stands-kept g (operand_kind key.operation) 0 key.left.0 ready.left_stands;
  right_stands = stands-kept g (operand_kind key.operation) 0 key.right.0 ready.right_stands;
  result_stands = rw ready.of_family (stands-weaker Zbdd var 0 now id.0 (omega arith) st);
  computes =
      computes-same key.operation ready.of_family key.limit (reading now key.left.0) (reading now key.right.0) (reading now id.0) (branch var (reading before hi) (reading before lo)) is
      (operands-kept g key.operation key.limit key.left.0 key.right.0 (branch var (reading before hi) (reading before lo))
      (stands-below (operand_kind key.operation) 0 before key.left.0 ready.left_stands) (stands-below (operand_kind key.operation) 0 before key.right.0 ready.right_stands) ready.computes);
}
