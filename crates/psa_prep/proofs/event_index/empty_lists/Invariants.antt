use Rattle.std.proofs.Common.{◌≡◌}
use Rattle.psa_prep.specs.Index.{empties}
use Rattle.psa_prep.proofs.event_index.empty_lists.Given as goal

abbrev pub invariant-loop-made : goal.invariant-loop-made
invariant-loop-made l = l.lists.items ≡ empties l._made
