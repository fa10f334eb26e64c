use Rattle.psa_prep.proofs.IndexLemmas.{SubsetNoted}
use Rattle.psa_prep.proofs.event_index.note_subset.Given as goal

abbrev pub invariant-loop-id : goal.invariant-loop-id
invariant-loop-id l = SubsetNoted l.number l.subset l.members l.id-index l.bits l.fn.lists.items l.lists.items
