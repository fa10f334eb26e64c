-- The steps to the node of a target's products: what the diagram of its graph reads as, the family that is made of
-- the diagram, and from where the nodes on the way come.
use Rattle.std.proofs.Common.{◌≡◌, ◌<◌, ◌≤◌, ◌↔◌, ℕ, ◌&&◌, Bool, true, false, List, [], ◌∷◌, length, Result, Ok, Err, IfOk, refl, sym, ap, ◌∙◌, subst, arith}
use Rattle.std.specs.Prelude.{nat_lt}
use Rattle.std.specs.List.{list_all}
use Rattle.psa_logic.specs.Products.{IsCutProduct, IsPrimeProduct, rank_of}
use Rattle.psa_graph.specs.declared.graph.Graph.{Graph}
use Rattle.psa_graph.specs.Truths.{graph_truth, place_truth}
use Rattle.psa_nodes.specs.declared.node.Kind.{Kind}
use Rattle.psa_nodes.specs.declared.node.Kind.TheVariants as node
use Rattle.psa_nodes.specs.declared.node.Node.{Node}
use Rattle.psa_nodes.specs.declared.node.NodeId.{NodeId}
use Rattle.psa_nodes.specs.declared.node.NodeError.{NodeError}
use Rattle.psa_nodes.specs.declared.node.Operation.TheVariants as operation
use Rattle.psa_nodes.specs.declared.node.TheConstants.MemoKey.{NO_RIGHT}
use Rattle.psa_nodes.specs.Cofactors.{cofactor, IsCofactorConjunction, IsCutOfCofactor, IsPrimeOfCofactors}
use Rattle.psa_nodes.specs.Nodes.{Grown}
use Rattle.psa_nodes.specs.Progress.{IsCall, IsResult}
use Rattle.psa_nodes.specs.Readings.{Reading, truth, has, stands, level, first_literal}
use Rattle.psa_nodes.specs.Table.{Table}
use Rattle.psa_nodes.specs.Tails.{AreTailsOf}
use Rattle.psa_nodes.proofs.CallerLemmas.{truth-kept, stands-below, call-then, call-wide}
use Rattle.psa_bdd.specs.Building.{IsCofactorOfPlace}
use Rattle.psa_prime.specs.Primes.{IsPrimeOrigin}
use Rattle.psa_model.specs.declared.expanded.Expanded.{Expanded}
use Rattle.psa_model.specs.declared.ids.EventNumber.{EventNumber}
use Rattle.psa_model.specs.declared.settings.Algorithm.{Algorithm}
use Rattle.psa_model.specs.declared.settings.Algorithm.TheVariants.{Bdd, Zbdd}
use Rattle.psa_model.specs.declared.settings.Mode.{Mode}
use Rattle.psa_model.specs.declared.settings.Mode.TheVariants.{CutSets, Primes}
use Rattle.psa_model.specs.declared.targets.Target.{Target}
use Rattle.psa_model.specs.Parts.{Truth, IsPart}
use Rattle.psa_model.specs.Ranks.{ranks_of}
use Rattle.psa_model.specs.Report.{Analysis, IsProductIn, ranked_truth}
use Rattle.psa_model.specs.Targets.{truth_by_rank}
use Rattle.psa_model.proofs.PartForms.{whole-part}
use Rattle.psa_outcome.specs.Origins.{IsPartProduct, IsSource, Origin, is_by_graph}
use Rattle.psa_zbdd.specs.GraphFamilies.{IsFamilyOfCutSets, IsGraphProduct}
use Rattle.psa_sections.specs.ProductNodes.{IsNodeOfProducts}

-- the target's graph is true where the target over its ranks is
pub graph-target :
    (expanded : Expanded) (target : Target) (ranks : List EventNumber) (graph : Graph)
    → ranks ≡ ranks_of expanded target
    → ((s : ℕ → Bool) → graph_truth graph s ≡ truth_by_rank expanded target ranks s)
    → graph_truth graph ≡ ranked_truth expanded target
graph-target expanded target ranks graph are graph_reads =
    λ i s. (graph_reads s ∙ ap (λ (r : List EventNumber). truth_by_rank expanded target r s) are) i

-- the diagram of the target's graph reads as the target over its ranks
pub diagram-target :
    (expanded : Expanded) (target : Target) (ranks : List EventNumber) (graph : Graph) (ns : List Node) (root : ℕ)
    → ranks ≡ ranks_of expanded target
    → ((s : ℕ → Bool) → graph_truth graph s ≡ truth_by_rank expanded target ranks s)
    → ((s : ℕ → Bool) → truth ns root s ≡ graph_truth graph s)
    → truth ns root ≡ ranked_truth expanded target
diagram-target expanded target ranks graph ns root are graph_reads reads =
    λ i s. (reads s ∙ graph_reads s ∙ ap (λ (r : List EventNumber). truth_by_rank expanded target r s) are) i

-- a diagram reads as it did when the table has grown
pub diagram-kept : {before now : List Node} → Grown before now → (root : ℕ) → stands node.Bdd 0 before root ≡ true → truth now root ≡ truth before root
diagram-kept {before} g root st = λ i s. truth-kept g root s (stands-below node.Bdd 0 before root st) i

and-true : (b : Bool) → b ≡ (b && true)
and-true true = refl
and-true false = refl

module _ (analysis : Analysis) (target : Target) where
  -- products come by way of the target's diagram
  abbrev pub ByDiagram : Type 0
  ByDiagram = is_by_graph analysis.settings.algorithm analysis.settings.mode ≡ false

  -- by way of the diagram the mode alone decides what members of families are tails of
  by-mode : (algorithm : Algorithm) (mode : Mode) → is_by_graph algorithm mode ≡ false → IsSource Bdd mode analysis target ≡ IsSource algorithm mode analysis target
  by-mode Bdd mode e = refl
  by-mode Zbdd Primes e = refl
  by-mode Zbdd CutSets e = absurd (cc)

  as-source : ByDiagram → (v : ℕ) (r : Reading) → AreTailsOf (IsSource Bdd analysis.settings.mode analysis target) node.Zbdd v r → Origin analysis target node.Zbdd v r
  as-source by v r o = subst (λ (Source : List ℕ → Type 0). AreTailsOf Source node.Zbdd v r) (by-mode analysis.settings.algorithm analysis.settings.mode by) o

  -- a cofactor of a place of the target's graph is one of a part
  pub place-origin :
      ByDiagram
      → (graph : Graph)
      → ((place : ℕ) → place < length graph.nodes → IsPart analysis.expanded target (place_truth graph place))
      → (k : Kind) (v : ℕ) (r : Reading) → IsCofactorOfPlace graph k v r → Origin analysis target k v r
  place-origin by graph parts node.Bdd v r o = record {
    by_diagram = by;
    of_part = record {
      part = place_truth graph o.place;
      is_part = parts o.place o.within;
      cofactors = record {
        assignments = o.of_place.assignment ∷ [];
        some = λ e. cc;
        same = λ s. o.of_place.reads s ∙ and-true (cofactor (place_truth graph o.place) o.of_place.assignment v s);
      };
    };
  }
  place-origin by graph parts node.Zbdd v r o = absurd (differ o.of_place.of_bdd)
    where
      differ : node.Zbdd ≡ node.Bdd → ⊥
      differ e = cc

  module _ (f : Truth) (same : f ≡ ranked_truth analysis.expanded target) where
    -- tails of cut sets of the diagram's cofactors are those of the target's
    pub cut-origin :
        ByDiagram → analysis.settings.mode ≡ CutSets
        → (k : Kind) (v : ℕ) (r : Reading) → AreTailsOf (IsCutOfCofactor f analysis.settings.limit_order) k v r
        → Origin analysis target k v r
    cut-origin by mode node.Bdd v r o = absurd (differ o.of_zbdd)
      where
        differ : node.Bdd ≡ node.Zbdd → ⊥
        differ e = cc
    cut-origin by mode node.Zbdd v r o =
        as-source by v r
        (subst (λ (m : Mode). AreTailsOf (IsSource Bdd m analysis target) node.Zbdd v r) (sym mode)
        (subst (λ (g : Truth). AreTailsOf (IsCutOfCofactor g analysis.settings.limit_order) node.Zbdd v r) same o))

    -- conjunctions of the diagram's cofactors are those of the target, which is a part of itself, and so are their
    -- prime implicants
    pub prime-origin :
        ByDiagram → analysis.settings.mode ≡ Primes
        → (k : Kind) (v : ℕ) (r : Reading) → IsPrimeOrigin f analysis.settings.limit_order k v r
        → Origin analysis target k v r
    prime-origin by mode node.Bdd v r o = record {
      by_diagram = by;
      of_part = record {
        part = ranked_truth analysis.expanded target;
        is_part = whole-part analysis.expanded target;
        cofactors = subst (λ (g : Truth). IsCofactorConjunction g v r.as_truth) same o;
      };
    }
    prime-origin by mode node.Zbdd v r o =
        as-source by v r
        (subst (λ (m : Mode). AreTailsOf (IsSource Bdd m analysis target) node.Zbdd v r) (sym mode)
        (subst (λ (g : Truth). AreTailsOf (IsPrimeOfCofactors g analysis.settings.limit_order) node.Zbdd v r) same o))

-- the family that is made of the target's diagram holds its products
module _ (analysis : Analysis) (target : Target) (now : Table) (root : ℕ) (same : truth now.nodes root ≡ ranked_truth analysis.expanded target) where
  pub cut-node :
      analysis.settings.mode ≡ CutSets
      → (answer : Result NodeId NodeError)
      → IfOk answer (λ id. IsResult operation.MinimalOfBdd analysis.settings.limit_order now.nodes root NO_RIGHT.0 id.0)
      → IfOk answer (λ id. IsNodeOfProducts analysis target now id.0)
  cut-node mode (Err e) are = tt
  cut-node mode (Ok id) are = (
    are.stands_at,
    λ product.
        subst (λ (m : Mode). (has now.nodes id.0 product ≡ true) ↔ IsProductIn m (ranked_truth analysis.expanded target) analysis.settings.limit_order product) (sym mode)
        (subst (λ (g : Truth). (has now.nodes id.0 product ≡ true) ↔ IsCutProduct g analysis.settings.limit_order product) same (are.computes product)),
  )

  pub prime-node :
      analysis.settings.mode ≡ Primes
      → (answer : Result NodeId NodeError)
      → IfOk answer (λ id. IsResult operation.Primes analysis.settings.limit_order now.nodes root NO_RIGHT.0 id.0)
      → IfOk answer (λ id. IsNodeOfProducts analysis target now id.0)
  prime-node mode (Err e) are = tt
  prime-node mode (Ok id) are = (
    are.stands_at,
    λ product.
        subst (λ (m : Mode). (has now.nodes id.0 product ≡ true) ↔ IsProductIn m (ranked_truth analysis.expanded target) analysis.settings.limit_order product) (sym mode)
        (subst (λ (g : Truth). (has now.nodes id.0 product ≡ true) ↔ IsPrimeProduct g analysis.settings.limit_order product) same (are.computes product)),
  )

-- the calls on the way, as steps of the whole
module _ (analysis : Analysis) (target : Target) {before : Table} where
  -- the making of the diagram
  pub built-call :
      ByDiagram analysis target
      → (graph : Graph)
      → ((place : ℕ) → place < length graph.nodes → IsPart analysis.expanded target (place_truth graph place))
      → {now : Table} (answer : Result NodeId NodeError)
      → IsCall (IsCofactorOfPlace graph) 0 before now answer → IsCall (Origin analysis target) 0 before now answer
  built-call by graph parts answer call =
      let wider : (k : Kind) (v : ℕ) (r : Reading) → 0 ≤ first_literal k v → IsCofactorOfPlace graph k v r → Origin analysis target k v r = λ k v r past o. place-origin analysis target by graph parts k v r o in
      call-wide {low = 0} {wide = 0} (omega arith) wider answer call

  module _ {middle now : Table} (root : NodeId) (same : truth middle.nodes root.0 ≡ ranked_truth analysis.expanded target) (answer : Result NodeId NodeError) (built : IsCall (Origin analysis target) 0 before middle (Ok root)) where
    -- and that of the cut sets
    pub cut-call :
        ByDiagram analysis target → analysis.settings.mode ≡ CutSets
        → IsCall (AreTailsOf (IsCutOfCofactor (truth middle.nodes root.0) analysis.settings.limit_order)) (level middle.nodes root.0) middle now answer
        → IsCall (Origin analysis target) 0 before now answer
    cut-call by mode call =
        call-then root answer built
        (call-wide {low = level middle.nodes root.0} {wide = 0} (omega arith) (λ k v r past o. cut-origin analysis target (truth middle.nodes root.0) same by mode k v r o) answer call)

    -- or of the prime implicants
    pub prime-call :
        ByDiagram analysis target → analysis.settings.mode ≡ Primes
        → IsCall (IsPrimeOrigin (truth middle.nodes root.0) analysis.settings.limit_order) (level middle.nodes root.0) middle now answer
        → IsCall (Origin analysis target) 0 before now answer
    prime-call by mode call =
        call-then root answer built
        (call-wide {low = level middle.nodes root.0} {wide = 0} (omega arith) (λ k v r past o. prime-origin analysis target (truth middle.nodes root.0) same by mode k v r o) answer call)

-- ---- straight from the graph

-- by way of the graph the algorithm is that of families, and the mode that of cut sets
by-families : (algorithm : Algorithm) (mode : Mode) → is_by_graph algorithm mode ≡ true → (algorithm ≡ Zbdd) × (mode ≡ CutSets)
by-families Bdd CutSets e = absurd (cc)
by-families Bdd Primes e = absurd (cc)
by-families Zbdd Primes e = absurd (cc)
by-families Zbdd CutSets e = (refl, refl)

module _ (analysis : Analysis) (target : Target) (by : is_by_graph analysis.settings.algorithm analysis.settings.mode ≡ true) (graph : Graph) where
  -- the family that is made of the graph holds the target's products
  pub graph-node :
      (same : graph_truth graph ≡ ranked_truth analysis.expanded target) (now : Table) (answer : Result NodeId NodeError)
      → IfOk answer (λ id. IsFamilyOfCutSets (graph_truth graph) analysis.settings.limit_order now.nodes id.0)
      → IfOk answer (λ id. IsNodeOfProducts analysis target now id.0)
  graph-node same now (Err e) are = tt
  graph-node same now (Ok id) are = (
    are.stands_at,
    λ product.
        subst (λ (m : Mode). (has now.nodes id.0 product ≡ true) ↔ IsProductIn m (ranked_truth analysis.expanded target) analysis.settings.limit_order product) (sym (by-families analysis.settings.algorithm analysis.settings.mode by).1)
        (subst (λ (g : Truth). (has now.nodes id.0 product ≡ true) ↔ IsCutProduct g analysis.settings.limit_order product) same (are.reads product)),
  )

  module _ (width : graph.width ≡ length (ranks_of analysis.expanded target)) (parts : (place : ℕ) → place < length graph.nodes → IsPart analysis.expanded target (place_truth graph place)) where
    -- a product of the graph is one of a part
    part-product : (product : List ℕ) → IsGraphProduct graph analysis.settings.limit_order product → IsPartProduct analysis.expanded target analysis.settings.limit_order product
    part-product product of = record {
      part = place_truth graph of.place;
      is_part = parts of.place of.of_graph;
      ranked = subst (λ n. list_all (λ literal. nat_lt (rank_of literal) n) product ≡ true) width of.signed.ranked;
      ascending = of.signed.ascending;
      consistent = of.signed.consistent;
      within = of.signed.within;
      implies = of.implies;
    }

    -- tails of the graph's products are those of the target's
    graph-origin : (k : Kind) (v : ℕ) (r : Reading) → AreTailsOf (IsGraphProduct graph analysis.settings.limit_order) k v r → Origin analysis target k v r
    graph-origin node.Bdd v r o = absurd (differ o.of_zbdd)
      where
        differ : node.Bdd ≡ node.Zbdd → ⊥
        differ e = cc
    graph-origin node.Zbdd v r o =
        let way = by-families analysis.settings.algorithm analysis.settings.mode by in
        subst (λ (a : Algorithm). AreTailsOf (IsSource a analysis.settings.mode analysis target) node.Zbdd v r) (sym way.0)
        (subst (λ (m : Mode). AreTailsOf (IsSource Zbdd m analysis target) node.Zbdd v r) (sym way.1)
        (record {
          of_zbdd = refl;
          tails = λ set m.
              let t = o.tails set m in
              record { whole = t.whole; member = part-product t.whole t.member; tail = t.tail };
        }))

    -- and so are the nodes of the call that makes the family
    pub graph-call : {before now : Table} (answer : Result NodeId NodeError) → IsCall (AreTailsOf (IsGraphProduct graph analysis.settings.limit_order)) 0 before now answer → IsCall (Origin analysis target) 0 before now answer
    graph-call answer call =
        let wider : (k : Kind) (v : ℕ) (r : Reading) → 0 ≤ first_literal k v → AreTailsOf (IsGraphProduct graph analysis.settings.limit_order) k v r → Origin analysis target k v r = λ k v r past o. graph-origin k v r o in
        call-wide {low = 0} {wide = 0} (omega arith) wider answer call
