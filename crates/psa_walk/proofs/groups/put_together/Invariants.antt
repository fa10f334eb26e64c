use Rattle.std.proofs.Common.{◌≡◌, [], length}
use Rattle.std.specs.Vec.Iter.{into_iter_items, into_iter_len}
use Rattle.psa_walk.specs.SequenceGroups.{numbers, all_grouped}
use Rattle.psa_walk.proofs.groups.put_together.Given as goal

abbrev pub invariant-loop-one : goal.invariant-loop-one
invariant-loop-one l = record {
  in_step : l.places.keys ≡ numbers l.groups.items;
  whole : all_grouped l.groups.items (into_iter_items l.one-iterator) ≡ all_grouped [] l.fn.arrived.items;
  size : into_iter_len l.one-iterator ≡ length (into_iter_items l.one-iterator);
}
