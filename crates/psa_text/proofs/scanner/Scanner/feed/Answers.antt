use Rattle.psa_text.specs.scanner.State.{scan_of}
use Rattle.psa_text.proofs.scanner.SpansInFront.{first_and_rest}
use Rattle.psa_text.proofs.scanner.FirstFaults.{no_fault}
use Rattle.psa_text.proofs.scanner.PiecesRead.{span_then, span_byte, piece_read, feed_error}
use Rattle.psa_text.proofs.scanner.Scanner.feed.Goals as goal

pub returns-in-Err-clause-read : goal.returns-in-Err-clause-read
returns-in-Err-clause-read c = λ h has.
    let s = scan_of c.args.self.now in
    let t = scan_of c.read_span.new.self in
    let rest = c.read_span.result.now in
    let went = span_then s (scan_of c.loop-byte.self) t c.args.piece.now c.loop-byte.rest.now rest c.loop-byte.invariant.1 c.read_span.ensures.read in
    feed_error h c.args.piece.now rest _ _ s t c.step.new.self c.in-Err.error has.1 went (first_and_rest rest c.in-len1-up.len_at_least) c.in-Err.ensures c.step.new.self

pub loop-byte-preserved : goal.loop-byte-preserved
loop-byte-preserved c =
    let s = scan_of c.args.self.now in
    let t = scan_of c.read_span.new.self in
    let u = scan_of c.step.new.self in
    let rest = c.read_span.result.now in
    let went = span_then s (scan_of c.loop-byte.self) t c.args.piece.now c.loop-byte.rest.now rest c.loop-byte.invariant.1 c.read_span.ensures.read in
    let step = c.in_default-step.ensures in
    (step.1, span_then s t u c.args.piece.now rest _ went (span_byte t u _ rest _ (first_and_rest rest c.in-len1-up.len_at_least) step.0))

pub returns-clause-read : goal.returns-clause-read
returns-clause-read c = λ h has.
    let s = scan_of c.args.self.now in
    let t = scan_of c.read_span.new.self in
    let rest = c.read_span.result.now in
    let went = span_then s (scan_of c.loop-byte.self) t c.args.piece.now c.loop-byte.rest.now rest c.loop-byte.invariant.1 c.read_span.ensures.read in
    let read = piece_read h c.args.piece.now rest s t c.in_default-read_span.len_below has.1 went in
    ((c.read_span.ensures.failed, read), no_fault _ _ read)
