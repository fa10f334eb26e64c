use Rattle.std.proofs.Common.{◌≡◌, ◌<◌, ◌+◌, ◌*◌, ◌^◌, ℕ, List, length, get_or, set, take, sym, ap, ◌∙◌, subst, subst₂, arith}
use Rattle.std.proofs.lemmas.List.{length-set}
use Rattle.psa_chains.specs.declared.reference.Reference.{Reference}
use Rattle.psa_chains.specs.Chains.{row, targets}
use Rattle.psa_chains.specs.Depths.{AreBelow, AreRight, IsOrder, depth_by}
use Rattle.psa_chains.proofs.Walks.{row-at, refers-at}
use Rattle.psa_chains.proofs.Deep.{order-acyclic, right-more, below-more, right-all}
use Rattle.psa_chains.proofs.depth.depths.Goals as goal

-- the place that the order has
place-inside : (slice order : List ℕ) (i n : ℕ) → slice ≡ order → i < length slice → ((k : ℕ) → k < length order → get_or order k 0 < n) → get_or slice i 0 < n
place-inside slice order i n same low inside = subst (λ xs. get_or xs i 0 < n) (sym same) (inside i (omega (arith, ap (length {A = ℕ}) same)))

pub depth_of-depth-requires-clause-stand : goal.depth_of-depth-requires-clause-stand
depth_of-depth-requires-clause-stand c =
    let g = c.args.graph.now in
    let place = get_or c.as_slice-node-items.result.now c.loop-node.node-index 0 in
    let low = place-inside c.as_slice-node-items.result.now c.args.components.now.order c.loop-node.node-index (length g) c.as_slice-node-items.ensures c.loop-node-test.true c.requires.components.inside in
    let is = c.as_slice.ensures ∙ row-at g place c.index-graph-place.result c.index-graph-place.is low in
    subst (λ rs. (k : ℕ) → k < length rs → get_or (targets rs) k 0 < length c.as_slice-in-loop-node.result.now) (sym is)
    (λ k less. omega (arith, c.requires.stand place _ (refers-at g place k less), c.loop-node.invariant.all, ap (length {A = ℕ}) c.as_slice-in-loop-node.ensures))

-- one depth is set
module _ (g : List (List Reference)) (nested order depths : List ℕ) (i depth : ℕ) (set-is : List ℕ) (low : i < length order) (room : get_or order i 0 < length depths)
    (right : AreRight g nested depths (take i order)) where
  pub right-set : IsOrder g order → set-is ≡ set depths (get_or order i 0) depth → depth ≡ depth_by depths (get_or nested (get_or order i 0) 0) (row g (get_or order i 0)) → AreRight g nested set-is (take (i + 1) order)
  right-set is at exact =
      subst (λ xs. AreRight g nested xs (take (i + 1) order)) (sym (at ∙ ap (λ d. set depths (get_or order i 0) d) exact))
      (right-more g nested order depths i low is room right)

next-bound : (i : ℕ) → i * 2 ^ 32 + 2 ^ 32 ≡ (i + 1) * 2 ^ 32
next-bound i = omega arith

pub loop-node-preserved : goal.loop-node-preserved
loop-node-preserved c =
    let g = c.args.graph.now in
    let comps = c.args.components.now in
    let inv = c.loop-node.invariant in
    let i = c.loop-node.node-index in
    let place = get_or c.as_slice-node-items.result.now i 0 in
    let low = place-inside c.as_slice-node-items.result.now comps.order i (length g) c.as_slice-node-items.ensures c.loop-node-test.true c.requires.components.inside in
    let same : place ≡ get_or comps.order i 0 = ap (λ xs. get_or xs i 0) c.as_slice-node-items.ensures in
    let row-is = c.as_slice.ensures ∙ row-at g place c.index-graph-place.result c.index-graph-place.is low in
    let exact : c.depth_of-depth.result ≡ depth_by c.loop-node.depths (get_or c.args.nested.now place 0) (row g place) =
    c.depth_of-depth.ensures.exact ∙ ap (λ ds. depth_by ds (get_or c.args.nested.now place 0) c.as_slice.result.now) c.as_slice-in-loop-node.ensures ∙ ap (depth_by c.loop-node.depths (get_or c.args.nested.now place 0)) row-is in
    let fits = c.depth_of-depth.ensures.bound (i * 2 ^ 32) (subst (AreBelow (i * 2 ^ 32)) (sym c.as_slice-in-loop-node.ensures) inv.below) in
    record {
      all = ap (length {A = ℕ}) c.set.ensures ∙ length-set c.loop-node.depths place c.depth_of-depth.result ∙ inv.all;
      below = subst₂ AreBelow (next-bound i) (sym c.set.ensures) (below-more c.loop-node.depths i place c.depth_of-depth.result (i * 2 ^ 32) inv.below fits);
      right = right-set g c.args.nested.now comps.order c.loop-node.depths i c.depth_of-depth.result c.set.new.self (omega (arith, c.loop-node-test.true, ap (length {A = ℕ}) c.as_slice-node-items.ensures))
          (subst (λ x. x < length c.loop-node.depths) same (omega (arith, inv.all, low))) inv.right
          (order-acyclic g comps.ranks comps.order c.requires.stand c.requires.components c.requires.acyclic)
          (c.set.ensures ∙ ap (λ x. set c.loop-node.depths x c.depth_of-depth.result) same)
          (subst (λ x. c.depth_of-depth.result ≡ depth_by c.loop-node.depths (get_or c.args.nested.now x 0) (row g x)) same exact);
    }

pub returns : goal.returns
returns c =
    let inv = c.loop-node.invariant in
    let comps = c.args.components.now in
    right-all c.args.graph.now comps.ranks comps.order c.args.nested.now c.loop-node.depths c.loop-node.node-index c.requires.components inv.all (omega (arith, c.loop-node-test.false, ap (length {A = ℕ}) c.as_slice-node-items.ensures)) inv.right
