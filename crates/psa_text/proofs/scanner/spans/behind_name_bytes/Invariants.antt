use Rattle.std.proofs.Common.{length}
use Rattle.psa_text.specs.TextBytes.{is_name_byte}
use Rattle.psa_text.specs.scanner.Spans.{IsBehind}
use Rattle.psa_text.proofs.scanner.spans.behind_name_bytes.Given as goal

abbrev pub invariant-loop-bytes : goal.invariant-loop-bytes
invariant-loop-bytes l = IsBehind is_name_byte l.fn.bytes l.bytes

abbrev pub decreases-loop-bytes : goal.decreases-loop-bytes
decreases-loop-bytes l = length l.bytes
