use Rattle.std.proofs.Common.{◌≡◌, ◌++◌, map, length}
use Rattle.std.specs.Vec.Iter.{into_iter_items, into_iter_len}
use Rattle.psa_walk.specs.SequenceGroups.{target_of}
use Rattle.psa_walk.proofs.groups.list_sequences.Given as goal

abbrev pub invariant-loop-one : goal.invariant-loop-one
invariant-loop-one l = record {
  whole : l.targets ++ map (target_of l.initiating.0) (into_iter_items l.one-iterator) ≡ l.fn.targets ++ map (target_of l.initiating.0) (into_iter_items l.initial.one-iterator);
  size : into_iter_len l.one-iterator ≡ length (into_iter_items l.one-iterator);
}
