use Rattle.std.proofs.Common.{sym}
use Rattle.psa_text.specs.scanner.Spans.{is_plain}
use Rattle.psa_text.proofs.scanner.SpansInFront.{behind_more, first_and_rest}
use Rattle.psa_text.proofs.scanner.spans.behind_plain_bytes.Goals as goal

pub loop-bytes-preserved : goal.loop-bytes-preserved
loop-bytes-preserved c =
    behind_more (is_plain c.args.quote) c.args.bytes.now c.loop-bytes.bytes.now _ _ c.loop-bytes.invariant (first_and_rest c.loop-bytes.bytes.now c.in-len1-up.len_at_least) (sym c.if-not-is_plain.ensures)
