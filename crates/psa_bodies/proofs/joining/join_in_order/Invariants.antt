use Rattle.psa_bodies.proofs.JoinedInOrder.{IsJoined}
use Rattle.psa_bodies.proofs.joining.join_in_order.Given as goal

abbrev pub invariant-loop-place : goal.invariant-loop-place
invariant-loop-place l = IsJoined l.initial.left.items l.left.items l.sequence l.place-index l.formulas
