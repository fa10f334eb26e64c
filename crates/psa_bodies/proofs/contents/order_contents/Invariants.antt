use Rattle.psa_bodies.proofs.CountedBefore.{CountedFirst}
use Rattle.psa_bodies.proofs.contents.order_contents.Given as goal

abbrev pub invariant-loop-block : goal.invariant-loop-block
invariant-loop-block l = CountedFirst l.block-items l.block-index l.collected l.before l.sequence
