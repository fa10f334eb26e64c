use Rattle.std.proofs.Common.{◌≡◌, None, length}
use Rattle.psa_text.specs.scanner.State.{scan_of}
use Rattle.psa_text.specs.scanner.Spans.{ReadsSpan}
use Rattle.psa_text.proofs.scanner.Scanner.feed.Given as goal

abbrev pub invariant-loop-byte : goal.invariant-loop-byte
invariant-loop-byte l = (l.self.failed ≡ None) × ReadsSpan (scan_of l.fn.self) l.fn.piece (scan_of l.self) l.rest

abbrev pub decreases-loop-byte : goal.decreases-loop-byte
decreases-loop-byte l = length l.rest
