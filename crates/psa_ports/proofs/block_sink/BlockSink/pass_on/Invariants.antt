-- What was taken stays the same, and the count of faults did not fall.
use Rattle.std.proofs.Common.{◌≡◌, ◌≤◌, ◌-◌, length, drop}
use Rattle.std.specs.Io.KnownBytes.{Keeps, append_known}
use Rattle.psa_ports.specs.BlockSink.{bytes_in}
use Rattle.psa_ports.proofs.block_sink.BlockSink.pass_on.Given as goal

abbrev pub invariant-loop-self : goal.invariant-loop-self
invariant-loop-self g l = record {
  within : l.self-inside.passed ≤ length l.self-inside.block.items;
  block : l.self-inside.block ≡ l.initial.self-inside.block;
  size : l.self-inside.size ≡ l.initial.self-inside.size;
  later : g.S.Sink.faults l.fn.self.sink ≤ g.S.Sink.faults l.self-inside.sink;
  kept : Keeps (bytes_in g.S.Sink.written l.fn.self) (append_known (g.S.Sink.written l.self-inside.sink) (drop l.self-inside.passed l.self-inside.block.items));
}

abbrev pub decreases-loop-self : goal.decreases-loop-self
decreases-loop-self g l = length l.self-inside.block.items - l.self-inside.passed
