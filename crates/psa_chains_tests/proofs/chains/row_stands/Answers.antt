use Rattle.std.proofs.Common.{◌<◌, sym, subst, below_more}
use Rattle.psa_chains.proofs.Walks.{target-at}
use Rattle.psa_chains_tests.proofs.chains.row_stands.Goals as goal

pub loop-reference-preserved : goal.loop-reference-preserved
loop-reference-preserved c =
    below_more _ _ c.loop-reference.invariant
    (subst (λ t. t < c.args.bound) (sym (target-at c.args.references.now c.loop-reference.reference-index _ c.loop-reference-test.true)) c.if-reference-bound.false)
