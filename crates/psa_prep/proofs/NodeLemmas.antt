-- The truths of the nodes of a graph while it grows.
use Rattle.std.proofs.Common.{◌≡◌, inl, inr, ◌<◌, ◌≤◌, ◌+◌, ℕ, Bool, true, false, List, [], ◌∷◌, ◌++◌, length, Some, ◌&&◌, ◌||◌, refl, sym, ap, ◌∙◌, subst, arith, ne_eqb, eq-eqb, eqb-true, true≢false, length-append}
use Rattle.psa_model.proofs.Levels.{and-left, and-right}
use Rattle.psa_graph.specs.declared.graph.GraphNode.{GraphNode}
use Rattle.psa_graph.specs.declared.graph.GraphNode.TheVariants.{Constant, Literal, And, Or}
use Rattle.psa_graph.specs.contracts.graph.GraphNodePartialEq.TheImpl as the_impl
use Rattle.psa_graph.specs.Truths.{truth_at, node_truth, IsNodeBehind, AreChildrenFirst}
use Rattle.psa_model.specs.Parts.{Truth}
use Rattle.psa_prep.specs.declared.builder.Builder.{Builder}
use Rattle.psa_prep.specs.Nodes.{nodes_of, IsBuilt, Placed, IsBlank}
use Rattle.psa_graph.proofs.PlaceTruthLemmas.{truth-cons, node-same, found-behind, truth-found}
use Rattle.psa_prep.specs.Places.{IsAdded, Grown}
use Rattle.psa_prep.proofs.PlaceLemmas.{added-grown, grown-length}

-- the derived comparison of nodes
abbrev pub node_eq : GraphNode → GraphNode → Bool
node_eq a b = the_impl.ghosts.eq a b

-- what it passes is equal
pub node-exact : (a b : GraphNode) → node_eq a b ≡ true → a ≡ b
node-exact (Constant true) (Constant true) h = refl
node-exact (Constant true) (Constant false) h = absurd (cc)
node-exact (Constant false) (Constant true) h = absurd (cc)
node-exact (Constant false) (Constant false) h = refl
node-exact (Constant b) _ h = absurd (cc)
node-exact (Literal rank true) (Literal other true) h = ap (λ r. Literal r true) (eqb-true rank other (and-left _ _ h))
node-exact (Literal rank false) (Literal other false) h = ap (λ r. Literal r false) (eqb-true rank other (and-left _ _ h))
node-exact (Literal rank true) (Literal other false) h = absurd (true≢false (sym (and-right _ _ h)))
node-exact (Literal rank false) (Literal other true) h = absurd (true≢false (sym (and-right _ _ h)))
node-exact (Literal rank b) _ h = absurd (cc)
node-exact (And a b) (And c d) h = let left = eqb-true a c (and-left _ _ h) in let right = eqb-true b d (and-right _ _ h) in λ i. And (left i) (right i)
node-exact (And a b) _ h = absurd (cc)
node-exact (Or a b) (Or c d) h = let left = eqb-true a c (and-left _ _ h) in let right = eqb-true b d (and-right _ _ h) in λ i. Or (left i) (right i)
node-exact (Or a b) _ h = absurd (cc)

-- an older place reads the same when many nodes come in
truth-more : (more before : List GraphNode) (place : ℕ) (s : ℕ → Bool) → place < length before
    → truth_at (more ++ before) place s ≡ truth_at before place s
truth-more [] before place s l = refl
truth-more (n ∷ more) before place s l =
    let size : length (more ++ before) ≡ length more + length before = length-append more before in
    truth-cons n (more ++ before) place s (omega arith) ∙ truth-more more before place s l

-- a place reads the same when nodes come in
pub truth-grown : (before now : List GraphNode) → Grown before now → (place : ℕ) → place < length before → (s : ℕ → Bool) → truth_at now place s ≡ truth_at before place s
truth-grown before now g place l s = ap (λ ns. truth_at ns place s) g.1 ∙ truth-more g.0 before place s l

-- a graph that grew
pub built-grown : (before now : Builder) → Grown (nodes_of before) (nodes_of now) → AreChildrenFirst now.width (nodes_of now) → IsBuilt before → IsBuilt now
built-grown before now g first built =
    let longer = grown-length (nodes_of before) (nodes_of now) g in
    let some : 1 < length (nodes_of before) = built.some in record {
      first = first;
      some = omega arith;
      falsity = λ s. truth-grown (nodes_of before) (nodes_of now) g 0 (omega arith) s ∙ built.falsity s;
      verity = λ s. truth-grown (nodes_of before) (nodes_of now) g 1 (omega arith) s ∙ built.verity s;
    }

-- a node that was added is placed
pub placed-node : (node : GraphNode) (before now : Builder) (place : ℕ) → IsBuilt before → IsNodeBehind before.width (length (nodes_of before)) node → IsAdded node (nodes_of before) (nodes_of now) place → now.width ≡ before.width → now.memo ≡ before.memo → Placed true (node_truth (truth_at (nodes_of before)) node) before now place
placed-node node before now place built behind is_added same_width same_memo =
    let g = added-grown node (nodes_of before) (nodes_of now) place is_added in
    let first_now : AreChildrenFirst now.width (nodes_of now) = first in record {
      there = (found-behind now.width (nodes_of now) place node first_now is_added.0).0;
      reads = λ asked s.
          truth-found now.width (nodes_of now) place node first_now is_added.0 s
          ∙ node-same (truth_at (nodes_of now)) (truth_at (nodes_of before)) before.width (length (nodes_of before)) node s behind
          (λ q l. truth-grown (nodes_of before) (nodes_of now) g q l s);
      adds = elim is_added.1 [ inl p ↦ inl p | inr p ↦ inr (node, p.0, p.1, refl) ];
      built = built-grown before now g first_now built;
      width = same_width;
      memo = same_memo;
    }
  where
    first : AreChildrenFirst now.width (nodes_of now)
    first = subst (λ (w : ℕ). AreChildrenFirst w (nodes_of now)) (sym same_width)
        (elim is_added.1 [
          | inl p ↦ subst (λ (ns : List GraphNode). AreChildrenFirst before.width ns) (sym p) built.first
          | inr p ↦ subst (λ (ns : List GraphNode). AreChildrenFirst before.width ns) (sym p.0) (behind, built.first)
        ])

-- a placed truth as another that is the same at each set
pub placed-as : (f g : Truth) (before now : Builder) (place : ℕ) → ((s : ℕ → Bool) → f s ≡ g s) → Placed true f before now place → Placed true g before now place
placed-as f g before now place same p = record {
  there = p.there;
  reads = λ asked s. p.reads asked s ∙ same s;
  adds = p.adds;
  built = p.built;
  width = p.width;
  memo = p.memo;
}

-- a place that was there
pub placed-there : (f : Truth) (builder : Builder) (place : ℕ) → IsBuilt builder → place < length (nodes_of builder) → ((s : ℕ → Bool) → truth_at (nodes_of builder) place s ≡ f s) → Placed true f builder builder place
placed-there f builder place built inside reads = record { there = inside; reads = λ asked. reads; adds = inl refl; built = built; width = refl; memo = refl }

-- nothing was asked for
pub placed-none : (f : Truth) (builder : Builder) (asked : Bool) → IsBuilt builder → asked ≡ false → Placed asked f builder builder 0
placed-none f builder asked built none =
    let some : 1 < length (nodes_of builder) = built.some in record {
      there = omega arith;
      reads = λ is s. absurd (true≢false (sym is ∙ none));
      adds = inl refl;
      built = built;
      width = refl;
      memo = refl;
    }

-- the two constants alone
pub blank-built : (width : ℕ) (builder : Builder) → IsBlank width builder → IsBuilt builder
blank-built width builder blank = record {
  first = subst (λ (ns : List GraphNode). AreChildrenFirst builder.width ns) (sym blank.nodes) (tt, (tt, tt));
  some = subst (λ (ns : List GraphNode). 1 < length ns) (sym blank.nodes) (omega arith);
  falsity = λ s. ap (λ ns. truth_at ns 0 s) blank.nodes;
  verity = λ s. ap (λ ns. truth_at ns 1 s) blank.nodes;
}
