use Rattle.std.proofs.Common.{◌≡◌, ◌<◌, ℕ, List, length, get_or, sym, ap, ◌∙◌, subst, arith, below_more}
use Rattle.std.proofs.lemmas.List.{length-map, get_or_default}
use Rattle.psa_chains.specs.declared.reference.Reference.{Reference}
use Rattle.psa_chains.specs.Chains.{row, targets, rank_of, IsCyclic, LeadsToRank, AllStand, AreRanks}
use Rattle.psa_chains.proofs.Walks.{row-at, refers-at, tied-cyclic, cyclic-tied, refers-within}
use Rattle.psa_chains.proofs.cycles.first_on_cycle.Goals as goal

cyclic : (g : List (List Reference)) (ranks : List ℕ) → AllStand g → AreRanks g ranks → (i : ℕ) → LeadsToRank ranks (row g i) (rank_of ranks i) → IsCyclic g i
cyclic g ranks stand are i tied =
    tied-cyclic g ranks i (get_or (targets (row g i)) tied.0 0) stand are (refers-at g i tied.0 tied.1) tied.2

tied : (g : List (List Reference)) (ranks : List ℕ) → AreRanks g ranks → (i : ℕ) → IsCyclic g i → LeadsToRank ranks (row g i) (rank_of ranks i)
tied g ranks are i h =
    let t = cyclic-tied g ranks i are h in
    let size : length (targets (row g i)) ≡ length (row g i) = length-map (row g i) (λ r. r.target) in
    (t.1.0, omega (arith, t.1.1), ap (rank_of ranks) (get_or_default (targets (row g i)) t.1.0 0 t.0 t.1.1 ∙ t.1.2) ∙ t.2)

-- the row and the ranks that were read
same-tied : (g : List (List Reference)) (slice item : List Reference) (i : ℕ) (ranks read : List ℕ) → slice ≡ item → item ≡ get_or g i item → i < length g → read ≡ ranks → LeadsToRank read slice (rank_of read i) → LeadsToRank ranks (row g i) (rank_of ranks i)
same-tied g slice item i ranks read same is low all h =
    subst (λ rs. LeadsToRank ranks rs (rank_of ranks i)) (same ∙ row-at g i item is low) (subst (λ rk. LeadsToRank rk slice (rank_of rk i)) all h)

tied-same : (g : List (List Reference)) (slice item : List Reference) (i : ℕ) (ranks read : List ℕ) → slice ≡ item → item ≡ get_or g i item → i < length g → read ≡ ranks → LeadsToRank ranks (row g i) (rank_of ranks i) → LeadsToRank read slice (rank_of read i)
tied-same g slice item i ranks read same is low all h =
    subst (λ rk. LeadsToRank rk slice (rank_of rk i)) (sym all) (subst (λ rs. LeadsToRank ranks rs (rank_of ranks i)) (sym (same ∙ row-at g i item is low)) h)

pub leads_to_rank-requires : goal.leads_to_rank-requires
leads_to_rank-requires c =
    let g = c.args.graph.now in
    let is = c.as_slice.ensures ∙ row-at g c.loop-node.node c.index-graph-node.result c.index-graph-node.is c.loop-node-test.true in
    subst (λ rs. (k : ℕ) → k < length rs → get_or (targets rs) k 0 < length c.as_slice-ranks.result.now) (sym is)
    (λ k low. omega (arith, c.requires.stand c.loop-node.node _ (refers-at g c.loop-node.node k low), c.requires.components.ranks_right.all, ap (length {A = ℕ}) c.as_slice-ranks.ensures))

pub returns-then-leads_to_rank-clause-some : goal.returns-then-leads_to_rank-clause-some
returns-then-leads_to_rank-clause-some c =
    let g = c.args.graph.now in
    record {
      cyclic = cyclic g c.args.components.now.ranks c.requires.stand c.requires.components.ranks_right c.loop-node.node
          (same-tied g c.as_slice.result.now c.index-graph-node.result c.loop-node.node c.args.components.now.ranks c.as_slice-ranks.result.now c.as_slice.ensures c.index-graph-node.is c.loop-node-test.true c.as_slice-ranks.ensures c.if-leads_to_rank.ensures);
      first = c.loop-node.invariant;
    }

pub loop-node-preserved : goal.loop-node-preserved
loop-node-preserved c =
    let g = c.args.graph.now in
    below_more _ _ c.loop-node.invariant
    (λ h. c.if-leads_to_rank.ensures (tied-same g c.as_slice.result.now c.index-graph-node.result c.loop-node.node c.args.components.now.ranks c.as_slice-ranks.result.now c.as_slice.ensures c.index-graph-node.is c.loop-node-test.true c.as_slice-ranks.ensures
    (tied g c.args.components.now.ranks c.requires.components.ranks_right c.loop-node.node h)))

pub returns-clause-none : goal.returns-clause-none
returns-clause-none c place h = c.loop-node.invariant place (omega (arith, refers-within c.args.graph.now place h.next h.refers)) h
