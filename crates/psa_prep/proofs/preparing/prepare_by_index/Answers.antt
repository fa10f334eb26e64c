use Rattle.std.proofs.Common.{◌≡◌, ◌<◌, ◌^◌, List, length, ap, sym, ◌∙◌, subst, refl, arith}
use Rattle.psa_model.specs.declared.ids.EventNumber.{EventNumber}
use Rattle.psa_model.specs.Ranks.{ranks_of}
use Rattle.psa_prep.specs.Lowering.{AreRanks}
use Rattle.psa_prep.specs.Nodes.{IsBlank}
use Rattle.std.proofs.Common.{ℕ, rules}
use Rattle.psa_prep.proofs.PigeonLemmas.{ranks-few}
use Rattle.psa_prep.proofs.TargetLemmas.{graph-is, graph-reads, graph-parts}
use Rattle.psa_prep.proofs.preparing.prepare_by_index.Goals as goal

pub rank_map-requires : goal.rank_map-requires
rank_map-requires c =
    let few = ranks-few c.args.expanded.now c.args.target.now in
    let size : length c.as_slice.result.now ≡ length (ranks_of c.args.expanded.now c.args.target.now) = ap length (c.as_slice.ensures ∙ c.requires.ranks) in omega (arith, c.requires.events)

pub lower_target-requires-clause-task : goal.lower_target-requires-clause-task
lower_target-requires-clause-task c = record {
  has_index = c.requires.index;
  has_ranks = subst (λ (rs : List EventNumber). AreRanks rs c.in_ok-by_event.by_event) (c.as_slice.ensures ∙ c.requires.ranks) c.in_ok-by_event.ensures;
}

pub lower_target-requires-clause-blank : goal.lower_target-requires-clause-blank
lower_target-requires-clause-blank c =
    subst (λ (n : ℕ). IsBlank n c.in_ok-builder.builder) (c.len.ensures ∙ ap length c.requires.ranks) c.in_ok-builder.ensures

pub overflow_cast-len : goal.overflow_cast-len
overflow_cast-len c =
    let few = ranks-few c.args.expanded.now c.args.target.now in
    let size : c.len.result ≡ length (ranks_of c.args.expanded.now c.args.target.now) = c.len.ensures ∙ ap length c.requires.ranks in
    let events : length c.args.expanded.now.events < 2 ^ 32 = c.requires.events in
    let inside : c.len.result < 2 ^ 32 = omega arith in search rules

pub returns-clause-graph : goal.returns-clause-graph
returns-clause-graph c = graph-is _ c.lower_target.new.builder (record { nodes = c.in_ok-nodes.nodes; root = c.in_ok-root.root; width = c.lower_target.new.builder.width }) (c.in_ok-nodes.ensures ∙ c.as_slice-2.ensures.keys) refl c.in_ok-root.ensures

pub returns-clause-width : goal.returns-clause-width
returns-clause-width c = c.in_ok-root.ensures.is_width ∙ ap length (sym c.requires.ranks)

pub returns-clause-truth : goal.returns-clause-truth
returns-clause-truth c = graph-reads _ c.lower_target.new.builder (record { nodes = c.in_ok-nodes.nodes; root = c.in_ok-root.root; width = c.lower_target.new.builder.width }) c.args.ranks.now (c.in_ok-nodes.ensures ∙ c.as_slice-2.ensures.keys) c.requires.ranks c.in_ok-root.ensures

pub returns-clause-parts : goal.returns-clause-parts
returns-clause-parts c = graph-parts _ c.lower_target.new.builder (record { nodes = c.in_ok-nodes.nodes; root = c.in_ok-root.root; width = c.lower_target.new.builder.width }) (c.in_ok-nodes.ensures ∙ c.as_slice-2.ensures.keys) c.in_ok-root.ensures
