-- The cut sets within a limit from those that are remembered for a greater one.
use Rattle.std.proofs.Common.{◌≡◌, ℕ, zero, suc, ◌+◌, ◌*◌, ◌<◌, ◌≤◌, true, List, Some, Result, ap, ◌∙◌, arith}
use Rattle.psa_nodes.specs.declared.node.Kind.TheVariants.{Bdd, Zbdd}
use Rattle.psa_nodes.specs.declared.node.Node.{Node}
use Rattle.psa_nodes.specs.declared.node.NodeId.{NodeId}
use Rattle.psa_nodes.specs.declared.node.NodeError.{NodeError}
use Rattle.psa_nodes.specs.declared.node.Operation.TheVariants.{MinimalOfBdd, Product}
use Rattle.psa_nodes.specs.declared.node.TheConstants.{MAX_RANKS}
use Rattle.psa_nodes.specs.Cofactors.{IsCutOfCofactor}
use Rattle.psa_nodes.specs.Readings.{node_at, truth, has, stands, level, first_literal}
use Rattle.psa_nodes.specs.Nodes.{AllFit, Grown, IsBounded}
use Rattle.psa_nodes.specs.Table.{Table}
use Rattle.psa_nodes.specs.Progress.{IsCall, IsResult}
use Rattle.psa_nodes.proofs.CallerLemmas.{bounded-at, tails-in, stands-below, stands-weaker, stands-at, stands-node, level-node, level-stands, node_at-some, truth-agree, call-wide}
use Rattle.psa_nodes.specs.Tails.{IsMember, AreTailsOf}
use Rattle.psa_zbdd.specs.CutSets.{AreWiderCuts}
use Rattle.psa_nodes.proofs.CallerLemmas.{stands-above}
use Rattle.psa_nodes.proofs.CallerLemmas.{result-kept}
use Rattle.psa_families.proofs.PositiveProductLemmas.{cuts-past, cuts-within}
use Rattle.psa_zbdd.proofs.CofactorCutSetLemmas.{own-cut}
use Rattle.psa_families.proofs.ShortMemberLemmas.{short-cuts}
use Rattle.psa_zbdd.proofs.CutSetSteps.{CutCalled, IsCuts}

-- the products of a truth that depends on the ranks from v on stand at 2 * v
level-cuts : (ns : List Node) → AllFit ns → (v root limit id : ℕ) → stands Bdd v ns root ≡ true → IsCuts ns root limit id → stands Zbdd (2 * v) ns id ≡ true
level-cuts ns fit zero root limit id st r = r.stands_at
level-cuts ns fit (suc x) root limit id st r =
    let st' : stands Bdd (x + 1) ns root ≡ true = stands-weaker Bdd (suc x) (x + 1) ns root (omega arith) st in
    stands-weaker Zbdd (2 * x + 1 + 1) (2 * suc x) ns id (omega arith)
    (stands-above ns fit (2 * x + 1) id r.stands_at (λ set m. cuts-past x (truth ns root) limit (truth-agree ns fit (x + 1) root st') set ((r.computes set).0 m)))

-- the cut sets within a greater limit are remembered
module _ (old : Table) (root : NodeId) (limit most : ℕ) (family : NodeId) (fit : AllFit old.nodes) (st : stands Bdd 0 old.nodes root.0 ≡ true) (wider : AreWiderCuts old.nodes root.0 limit most family.0) where
  -- taking the short members of a wider family is a call of the cut sets
  pub wider-call : IsBounded old.nodes → 2 ≤ root.0 → {A : Type 0} (now : Table) (answer : Result A NodeError) → IsCall (AreTailsOf (IsMember (has old.nodes family.0))) (level old.nodes family.0) old now answer → CutCalled root.0 most old now answer
  wider-call small inner now answer call =
      call-wide le
      (λ k v r past t. tails-in (IsCutOfCofactor (truth old.nodes root.0) most) (IsMember (has old.nodes family.0))
      (λ set m. own-cut (truth old.nodes root.0) most set (cuts-within (truth old.nodes root.0) wider.bound most set wider.to ((wider.cuts.computes set).0 m))) k v r t)
      answer call
    where
      some : (n : Node) × (node_at old.nodes root.0 ≡ Some n)
      some = let r = node_at-some old.nodes root.0 inner (stands-below Bdd 0 old.nodes root.0 st) in (r.0, r.1)

      kind : some.0.kind ≡ Bdd
      kind = (stands-at Bdd 0 old.nodes root.0 some.0 st some.1).0

      own : level old.nodes root.0 ≡ 2 * some.0.var
      own = level-node old.nodes root.0 some.0 some.1 ∙ ap (λ k. first_literal k some.0.var) kind

      le : level old.nodes root.0 ≤ level old.nodes family.0
      le =
          let lt : some.0.var < MAX_RANKS = bounded-at Bdd old.nodes small root.0 some.0 st some.1 in
          let here : stands Bdd some.0.var old.nodes root.0 ≡ true = rw kind at (stands-node old.nodes root.0 some.0 some.1) in
          let there = level-cuts old.nodes fit some.0.var root.0 wider.bound family.0 here wider.cuts in
          let past : 2 * some.0.var ≤ level old.nodes family.0 = level-stands Zbdd (2 * some.0.var) old.nodes family.0 (omega (arith, lt)) there in
          let e = own in
          omega (arith, e, past)

  -- and gives the cut sets within the limit
  pub wider-cuts : (now : Table) (id : NodeId) → Grown old.nodes now.nodes → AllFit now.nodes → IsResult Product limit now.nodes family.0 1 id.0 → IsCuts now.nodes root.0 limit id.0
  wider-cuts now id g f s =
      short-cuts now.nodes f root.0 limit wider.bound family.0 id.0 wider.from
      (result-kept g MinimalOfBdd wider.bound f root.0 0 family.0 (stands-below Bdd 0 old.nodes root.0 st) (omega arith) wider.cuts) s
