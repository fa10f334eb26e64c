use Rattle.std.proofs.Common.{◌<◌, length, subst}
use Rattle.psa_chains.proofs.Walks.{target-at}
use Rattle.psa_chains.proofs.depth.depth_of.Goals as goal

pub bounds-depths-reference : goal.bounds-depths-reference
bounds-depths-reference c =
    subst (λ t. t < length c.args.depths.now) (target-at c.args.references.now c.loop-reference.reference-index _ c.loop-reference-test.true)
    (c.requires.stand c.loop-reference.reference-index c.loop-reference-test.true)
