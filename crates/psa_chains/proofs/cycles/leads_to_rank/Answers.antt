use Rattle.std.proofs.Common.{◌<◌, length, sym, ap, ◌∙◌, subst, below_more}
use Rattle.psa_chains.specs.Chains.{rank_of}
use Rattle.psa_chains.proofs.Walks.{target-at}
use Rattle.psa_chains.proofs.cycles.leads_to_rank.Goals as goal

pub bounds-ranks-reference : goal.bounds-ranks-reference
bounds-ranks-reference c =
    subst (λ t. t < length c.args.ranks.now) (target-at c.args.references.now c.loop-reference.reference-index _ c.loop-reference-test.true)
    (c.requires c.loop-reference.reference-index c.loop-reference-test.true)

pub loop-reference-preserved : goal.loop-reference-preserved
loop-reference-preserved c =
    below_more _ _ c.loop-reference.invariant
    (λ tied. c.if-ranks-reference.false (ap (rank_of c.args.ranks.now) (sym (target-at c.args.references.now c.loop-reference.reference-index _ c.loop-reference-test.true)) ∙ tied))
