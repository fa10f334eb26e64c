use Rattle.psa_names.specs.Outlines.{entries_of}
use Rattle.psa_bodies.proofs.NumberingInOrder.{NumberedFirst}
use Rattle.psa_bodies.proofs.numbering.number_definitions.Given as goal

abbrev pub invariant-loop-definition : goal.invariant-loop-definition
invariant-loop-definition l = NumberedFirst (entries_of l.draft) l.definition-index l.counts l.definitions l.of_groups l.members
