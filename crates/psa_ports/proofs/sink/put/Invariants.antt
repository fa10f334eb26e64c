-- `put` has appended the bytes before `at`, and the count of faults did not fall.
use Rattle.std.proofs.Common.{length, take, ◌-◌, ◌≤◌}
use Rattle.std.specs.Io.KnownBytes.{Appends}
use Rattle.psa_ports.proofs.sink.put.Given as goal

abbrev pub invariant-loop-at : goal.invariant-loop-at
invariant-loop-at g l = record {
  within : l.at ≤ length l.bytes;
  later : g.S.Sink.faults l.fn.sink ≤ g.S.Sink.faults l.sink;
  written : Appends (g.S.Sink.written l.fn.sink) (g.S.Sink.written l.sink) (take l.at l.bytes);
}

abbrev pub decreases-loop-at : goal.decreases-loop-at
decreases-loop-at g l = length l.bytes - l.at
