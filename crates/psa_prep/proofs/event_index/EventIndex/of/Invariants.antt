use Rattle.psa_prep.proofs.IndexLemmas.{Indexed}
use Rattle.psa_prep.proofs.event_index.EventIndex.of.Given as goal

abbrev pub invariant-loop-number : goal.invariant-loop-number
invariant-loop-number l = Indexed l.expanded l.number l.lists.items
