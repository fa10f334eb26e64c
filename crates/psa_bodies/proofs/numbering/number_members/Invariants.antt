use Rattle.psa_bodies.proofs.CountedMembers.{FirstMembers}
use Rattle.psa_bodies.proofs.numbering.number_members.Given as goal

abbrev pub invariant-loop : goal.invariant-loop
invariant-loop l = FirstMembers l.counter l.initial.members l.initial.of_groups l.initial.counts l.of_groups l.counts l.members
