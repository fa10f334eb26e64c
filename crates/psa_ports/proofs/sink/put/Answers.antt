-- One write more appends the bytes up to where it ended.
use Rattle.std.proofs.Common.{rules, arith}
use Rattle.std.proofs.KnownBytes.{Appends-trans}
use Rattle.std.proofs.Math.Seq.{take-add}
use Rattle.psa_ports.proofs.sink.put.Goals as goal

pub loop-at-preserved : goal.loop-at-preserved
loop-at-preserved g c =
    let more = rw c.split_at.ensures.back at c.in_ok-at.ensures.bytes in
    record {
      within = omega (arith, c.in_ok-at.ensures.most, c.split_at.ensures.back_len);
      later = search rules;
      written = rw (take-add c.loop-at.at c.in_ok-at.field-0 c.args.bytes.now) (Appends-trans _ _ _ _ _ c.loop-at.invariant.written more);
    }
