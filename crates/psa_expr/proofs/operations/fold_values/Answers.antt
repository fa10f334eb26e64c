use Rattle.std.proofs.Common.{◌+◌, drop, sym, ap, ◌∙◌}
use Rattle.std.specs.List.{fold}
use Rattle.psa_model.specs.Values.{applied}
use Rattle.psa_expr.specs.Combined.{combined}
use Rattle.psa_expr.proofs.Folds.{fold-more, fold-failed}
use Rattle.psa_expr.proofs.operations.fold_values.Goals as goal

pub returns-in-Err : goal.returns-in-Err
returns-in-Err c =
    sym (fold-failed (combined c.args.folded) c.in-Err.fault (drop (c.loop-place.place + 1) c.args.values.now))
    ∙ ap (λ r. fold (applied (combined c.args.folded)) r (drop (c.loop-place.place + 1) c.args.values.now)) c.in-Err.ensures
    ∙ sym (fold-more (combined c.args.folded) c.args.values.now c.loop-place.place c.loop-place.value c.index-values-place.result c.loop-place-test.true c.index-values-place.is)
    ∙ c.loop-place.invariant
