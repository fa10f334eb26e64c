use Rattle.psa_report.proofs.WrittenLemmas.{left-stop, left-next, left-end, left-as, pieces-from, no-pieces}
use Rattle.psa_report.proofs.pieces.put_all.Goals as goal

pub returns-in_err-put_one : goal.returns-in_err-put_one
returns-in_err-put_one g c =
    left-stop _ _ _ _ _ _ _ _ _ c.put_one.result c.from_residual.result _
    (left-as _ _ _ _ _ _ _ c.loop-piece.invariant (pieces-from c.args.pieces.now c.loop-piece.piece-index _ c.loop-piece-test.true))
    c.put_one.ensures c.in_err-put_one.was c.from_residual.ensures.0

pub loop-piece-preserved : goal.loop-piece-preserved
loop-piece-preserved g c =
    left-next _ _ _ _ _ _ _ _ _ c.put_one.result _
    (left-as _ _ _ _ _ _ _ c.loop-piece.invariant (pieces-from c.args.pieces.now c.loop-piece.piece-index _ c.loop-piece-test.true))
    c.put_one.ensures c.in_ok-put_one.was

pub returns : goal.returns
returns g c =
    left-end _ _ _ _ _
    (left-as _ _ _ _ _ _ _ c.loop-piece.invariant (no-pieces c.args.pieces.now c.loop-piece.piece-index c.loop-piece-test.false))
