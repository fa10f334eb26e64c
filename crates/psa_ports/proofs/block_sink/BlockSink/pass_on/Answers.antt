-- One write more passes the next bytes on.
use Rattle.std.proofs.Common.{rules, arith}
use Rattle.psa_ports.proofs.BlockLemmas.{passed-on}
use Rattle.psa_ports.proofs.block_sink.BlockSink.pass_on.Goals as goal

pub loop-self-preserved : goal.loop-self-preserved
loop-self-preserved g c =
    let more = rw c.deref.ensures.value at rw c.split_at.ensures.back at c.in_ok-self-inside.ensures.bytes in
    record {
      within = omega (arith, c.in_ok-self-inside.ensures.most, c.split_at.ensures.back_len, c.deref.ensures.len);
      block = c.loop-self.invariant.block;
      size = c.loop-self.invariant.size;
      later = search rules;
      kept = passed-on _ _ _ c.loop-self.self-inside.block.items c.loop-self.self-inside.passed c.in_ok-self-inside.field-0 more c.loop-self.invariant.kept;
    }
