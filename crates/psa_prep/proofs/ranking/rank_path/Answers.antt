use Rattle.std.proofs.lemmas.Result.{err_from_is_err_and}
use Rattle.std.proofs.lemmas.List.{get_or_default}
use Rattle.psa_prep.specs.Ranking.{step_visits}
use Rattle.psa_prep.proofs.WalkLemmas.{list-start, list-more, list-end, exceeds-at, stops-map}
use Rattle.psa_prep.proofs.ranking.rank_path.Goals as goal

pub loop-step-init : goal.loop-step-init
loop-step-init c = list-start c.args.walk.now.expanded.now c.args.ranking.now c.requires.sound

pub loop-step-preserved : goal.loop-step-preserved
loop-step-preserved c =
    list-more c.args.walk.now.expanded.now (step_visits c.args.walk.now.expanded.now) c.args.path.now c.loop-step.step-index _ _ _ _ c.loop-step-test.true
    (get_or_default c.args.path.now c.loop-step.step-index _ _ c.loop-step-test.true) c.loop-step.invariant c.in_ok-rank_step.ensures

pub returns : goal.returns
returns c =
    list-end c.args.walk.now.expanded.now (step_visits c.args.walk.now.expanded.now) c.args.path.now c.loop-step.step-index _ _ c.loop-step-test.false c.loop-step.invariant

pub returns-in_err-rank_step : goal.returns-in_err-rank_step
returns-in_err-rank_step c =
    let p = err_from_is_err_and c.from_residual.result c.from_residual.ensures.1 in
    rw (p.1, p.2) (stops-map (Unit {0}) (Unit {0}) c.in_err-rank_step.field-0.0 (Unit {0}) _ (Unit {0}) _ (exceeds-at (step_visits c.args.walk.now.expanded.now) c.args.path.now c.loop-step.step-index _ c.args.ranking.now c.loop-step.ranking c.loop-step-test.true
    (get_or_default c.args.path.now c.loop-step.step-index _ _ c.loop-step-test.true) c.loop-step.invariant.ranks) c.in_err-rank_step.ensures)
