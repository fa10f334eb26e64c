-- From the family of a graph's root to its minimal cut sets.
use Rattle.std.proofs.Common.{◌≡◌, ℕ, true, List, Result, Ok, Err, IfOk, sym, subst, ◌∙◌, inr, arith}
use Rattle.psa_graph.specs.declared.graph.Graph.{Graph}
use Rattle.psa_graph.specs.Truths.{graph_truth, IsGraph}
use Rattle.psa_nodes.specs.declared.node.Kind.TheVariants.{Zbdd}
use Rattle.psa_nodes.specs.declared.node.NodeId.{NodeId}
use Rattle.psa_nodes.specs.declared.node.NodeError.{NodeError}
use Rattle.psa_nodes.specs.declared.node.Operation.TheVariants.{Positive, MinimalSets}
use Rattle.psa_nodes.specs.Families.{IsPositivePart}
use Rattle.psa_nodes.specs.Readings.{has, level}
use Rattle.psa_nodes.specs.Table.{Table}
use Rattle.psa_nodes.specs.Progress.{IsCall, IsResult}
use Rattle.psa_nodes.specs.Tails.{IsMember, AreTailsOf}
use Rattle.psa_nodes.proofs.CallerLemmas.{stands-below, has-kept, call-then}
use Rattle.psa_zbdd.specs.GraphFamilies.{IsSignedImplicant, IsGraphProduct, IsCoverAt, IsFamilyOfCutSets}
use Rattle.psa_families.proofs.MinimalSetsSteps.{MinimalCalled}
use Rattle.psa_families.proofs.PositivePartSteps.{PositiveCalled}
use Rattle.psa_zbdd.proofs.SignedProductLemmas.{positive-signed, positive-cuts}
use Rattle.psa_zbdd.proofs.CutCoverLemmas.{least-cuts}
use Rattle.psa_nodes.proofs.CallerLemmas.{result-kept}
use Rattle.psa_zbdd.proofs.GraphFamilySteps.{wider-source, cover-kept}

module _ (graph : Graph) (ok : IsGraph graph) (limit : ℕ) (old one : Table) (family : NodeId) (first : IsCall (AreTailsOf (IsGraphProduct graph limit)) 0 old one (Ok family))
    (covers : IsCoverAt graph.width limit (graph_truth graph) one.nodes family.0) where
  -- the positive part of a member is a product of the graph
  from-positive : (set : List ℕ) → IsPositivePart (has one.nodes family.0) set → IsGraphProduct graph limit set
  from-positive set p =
      let i : IsSignedImplicant graph.width limit (graph_truth graph) p.whole = covers.cover.sound p.whole p.member in
      subst (λ (l : List ℕ). IsGraphProduct graph limit l) (sym p.positive) (record {
        place = graph.root;
        of_graph = ok.root;
        signed = positive-signed graph.width limit p.whole i.0;
        implies = inr (positive-cuts graph.width limit (graph_truth graph) p.whole i);
      })

  -- dropping the literals of events that do not occur is a step
  pub positive-step : {A : Type 0} (two : Table) (answer : Result A NodeError) → PositiveCalled family.0 one two answer → IsCall (AreTailsOf (IsGraphProduct graph limit)) 0 old two answer
  positive-step two answer call =
      call-then family answer first (wider-source (IsPositivePart (has one.nodes family.0)) (IsGraphProduct graph limit) from-positive (level one.nodes family.0) one two answer call)

  -- after it
  module _ (two : Table) (positive : NodeId) (second : PositiveCalled family.0 one two (Ok positive)) (of_positive : IsResult Positive 0 two.nodes family.0 0 positive.0) where
    family_kept : (set : List ℕ) → has two.nodes family.0 set ≡ has one.nodes family.0 set
    family_kept set = has-kept second.progress.nodes family.0 set (stands-below Zbdd 0 one.nodes family.0 covers.stands_at)

    from-member : (set : List ℕ) → has two.nodes positive.0 set ≡ true → IsGraphProduct graph limit set
    from-member set m =
        let p = (of_positive.computes set).0 m in
        from-positive set (record { whole = p.whole; member = sym (family_kept p.whole) ∙ p.member; positive = p.positive })

    -- taking the minimal sets is the last step
    pub cut-call : {A : Type 0} (now : Table) (answer : Result A NodeError) → MinimalCalled positive.0 two now answer → IsCall (AreTailsOf (IsGraphProduct graph limit)) 0 old now answer
    cut-call now answer call =
        call-then positive answer (positive-step two (Ok positive) second)
        (wider-source (IsMember (has two.nodes positive.0)) (IsGraphProduct graph limit) from-member (level two.nodes positive.0) two now answer call)

    -- and gives the minimal cut sets
    pub cut-family : (now : Table) (answer : Result NodeId NodeError) → MinimalCalled positive.0 two now answer → IfOk answer (λ id. IsResult MinimalSets 0 now.nodes positive.0 0 id.0) → IfOk answer (λ id. IsFamilyOfCutSets (graph_truth graph) limit now.nodes id.0)
    cut-family now (Err e) call r = tt
    cut-family now (Ok id) call r = record {
      stands_at = r.stands_at;
      reads = least-cuts graph.width limit (graph_truth graph) (has now.nodes family.0) (has now.nodes positive.0)
          (cover-kept graph.width limit (graph_truth graph) call.progress.nodes family.0 (cover-kept graph.width limit (graph_truth graph) second.progress.nodes family.0 covers)).cover
          positive_now.computes (has now.nodes id.0) r.computes;
      only = r.only;
    }
      where
        positive_now : IsResult Positive 0 now.nodes family.0 0 positive.0
        positive_now =
            result-kept call.progress.nodes Positive 0 call.progress.table.fit family.0 0 positive.0
            (stands-below Zbdd 0 two.nodes family.0 (cover-kept graph.width limit (graph_truth graph) second.progress.nodes family.0 covers).stands_at) (omega arith) of_positive
