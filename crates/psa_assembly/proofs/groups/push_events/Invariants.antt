use Rattle.psa_assembly.proofs.EventsOfGroups.{EventsLeft}
use Rattle.psa_assembly.proofs.groups.push_events.Given as goal

abbrev pub invariant-loop-member : goal.invariant-loop-member
invariant-loop-member l = EventsLeft l.place l.members l.senses l.initial.basics l.member-index l.left l.basics
