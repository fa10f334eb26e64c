use Rattle.std.proofs.lemmas.Result.{err_from_is_err_and}
use Rattle.std.proofs.Common.{List, subst}
use Rattle.std.specs.List.{flat_map}
use Rattle.psa_prep.specs.Ranking.{step_visits, RanksList, Exceeds}
use Rattle.psa_model.specs.declared.targets.PathStep.{PathStep}
use Rattle.psa_prep.proofs.WalkLemmas.{list-start, list-more, list-end, exceeds-at, stops-map}
use Rattle.psa_prep.proofs.ranking.rank_paths.Goals as goal

pub loop-path-init : goal.loop-path-init
loop-path-init c = list-start c.args.walk.now.expanded.now c.args.ranking.now c.requires.sound

pub loop-path-preserved : goal.loop-path-preserved
loop-path-preserved c =
    list-more c.args.walk.now.expanded.now (λ path. flat_map (step_visits c.args.walk.now.expanded.now) path) c.args.paths.now c.loop-path.path-index c.path-item.result _ _ _ c.loop-path-test.true
    c.path-item.is c.loop-path.invariant
    (subst (λ (steps : List PathStep). RanksList c.args.walk.now.expanded.now (flat_map (step_visits c.args.walk.now.expanded.now) steps) c.loop-path.ranking c.rank_path.new.ranking) c.as_slice.ensures c.in_ok-rank_path.ensures)

pub returns : goal.returns
returns c =
    list-end c.args.walk.now.expanded.now (λ path. flat_map (step_visits c.args.walk.now.expanded.now) path) c.args.paths.now c.loop-path.path-index _ _ c.loop-path-test.false c.loop-path.invariant

pub returns-in_err-rank_path : goal.returns-in_err-rank_path
returns-in_err-rank_path c =
    let p = err_from_is_err_and c.from_residual.result c.from_residual.ensures.1 in
    rw (p.1, p.2) (stops-map (Unit {0}) (Unit {0}) c.in_err-rank_path.field-0.0 (Unit {0}) _ (Unit {0}) _ (λ many. exceeds-at (λ path. flat_map (step_visits c.args.walk.now.expanded.now) path) c.args.paths.now c.loop-path.path-index c.path-item.result c.args.ranking.now c.loop-path.ranking c.loop-path-test.true
    c.path-item.is c.loop-path.invariant.ranks
    (subst (λ (steps : List PathStep). Exceeds (flat_map (step_visits c.args.walk.now.expanded.now) steps) c.loop-path.ranking) c.as_slice.ensures many)) c.in_err-rank_path.ensures)
