use Rattle.psa_assembly.proofs.GroupForms.{FirstIds}
use Rattle.psa_assembly.proofs.groups.resolve_members.Given as goal

abbrev pub invariant-loop : goal.invariant-loop
invariant-loop l = FirstIds l.numbers l.initial.members l.counter l.made l.members
