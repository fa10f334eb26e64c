use Rattle.std.proofs.Common.{drop}
use Rattle.psa_report.specs.Pieces.{bytes_of}
use Rattle.psa_report.proofs.WrittenLemmas.{Left}
use Rattle.psa_report.proofs.pieces.put_all.Given as goal

abbrev pub invariant-loop-piece : goal.invariant-loop-piece
invariant-loop-piece g l =
    Left (g.S.Sink.written l.fn.out) (g.S.Sink.written l.out) (g.S.Sink.faults l.fn.out) (g.S.Sink.faults l.out) (bytes_of (drop l.piece-index l.pieces)) (bytes_of l.pieces)
