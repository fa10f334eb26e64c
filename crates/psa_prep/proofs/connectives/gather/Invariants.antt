use Rattle.psa_prep.proofs.ConnectiveLemmas.{GatheredSome}
use Rattle.psa_prep.proofs.connectives.gather.Given as goal

abbrev pub invariant-loop-place : goal.invariant-loop-place
invariant-loop-place l = GatheredSome l.context l.operands l.signs l.both l.place l.fn.builder l.builder l.pair
