use Rattle.std.proofs.Common.{◌≡◌, Some, sym, ap, ◌∙◌, refl}
use Rattle.std.proofs.lemmas.Result.{err_from_is_err_and}
use Rattle.std.specs.List.{slice_get}
use Rattle.psa_model.specs.declared.model.TheConstants.{MAX_DEPTH}
use Rattle.psa_model.specs.declared.targets.PathStep.TheVariants.{Collect}
use Rattle.psa_prep.specs.Ranking.{step_visits}
use Rattle.psa_prep.proofs.WalkLemmas.{list-known, list-missing, list-left, list-of, collected-visits, exceeds-of, stops-map}
use Rattle.psa_prep.proofs.ranking.rank_collected.Goals as goal

pub returns-then-contains : goal.returns-then-contains
returns-then-contains c = list-known c.args.walk.now.expanded.now c.args.id c.args.ranking.now (sym c.contains.ensures ∙ c.if-contains.true) c.requires.sound

pub rank_formula-requires : goal.rank_formula-requires
rank_formula-requires c =
    let found : slice_get c.args.walk.now.expanded.now.model.formulas c.args.id.0 ≡ Some c.in-Some.formula.now = ap (λ gs. slice_get gs c.args.id.0) (sym c.as_slice.ensures) ∙ sym c.in-Some.ensures in
    record { within = c.requires.resolved.formulas c.args.id.0 c.in-Some.formula.now found; index = c.requires.index; sound = c.requires.sound }

pub returns-in_err-rank_formula-in-Some : goal.returns-in_err-rank_formula-in-Some
returns-in_err-rank_formula-in-Some c =
    let found : slice_get c.args.walk.now.expanded.now.model.formulas c.args.id.0 ≡ Some c.in-Some.formula.now = ap (λ gs. slice_get gs c.args.id.0) (sym c.as_slice.ensures) ∙ sym c.in-Some.ensures in
    let p = err_from_is_err_and c.from_residual.result c.from_residual.ensures.1 in
    rw (p.1, p.2) (stops-map (Unit {0}) (Unit {0}) c.in_err-rank_formula-in-Some.field-0.0 (Unit {0}) _ (Unit {0}) _ (exceeds-of c.args.walk.now.expanded.now MAX_DEPTH c.in-Some.formula.now (step_visits c.args.walk.now.expanded.now (Collect c.args.id)) c.args.ranking.now
    (c.requires.resolved.formulas c.args.id.0 c.in-Some.formula.now found) (collected-visits c.args.walk.now.expanded.now c.args.id c.in-Some.formula.now c.requires.resolved found)) c.in_err-rank_formula-in-Some.ensures)

pub returns-in_ok-insert-in-Some : goal.returns-in_ok-insert-in-Some
returns-in_ok-insert-in-Some c =
    let found : slice_get c.args.walk.now.expanded.now.model.formulas c.args.id.0 ≡ Some c.in-Some.formula.now = ap (λ gs. slice_get gs c.args.id.0) (sym c.as_slice.ensures) ∙ sym c.in-Some.ensures in
    list-left c.args.walk.now.expanded.now c.args.id c.args.ranking.now _ _
    (list-of c.args.walk.now.expanded.now MAX_DEPTH c.in-Some.formula.now (step_visits c.args.walk.now.expanded.now (Collect c.args.id)) c.args.ranking.now _
    (c.requires.resolved.formulas c.args.id.0 c.in-Some.formula.now found) (collected-visits c.args.walk.now.expanded.now c.args.id c.in-Some.formula.now c.requires.resolved found) c.in_ok-rank_formula-in-Some.ensures)
    c.in_ok-insert-in-Some.ensures.updates.0 refl refl refl

pub returns-in-None : goal.returns-in-None
returns-in-None c =
    list-missing c.args.walk.now.expanded.now c.args.id c.args.ranking.now
    (ap (λ gs. slice_get gs c.args.id.0) (sym c.as_slice.ensures) ∙ sym c.in-None.ensures) c.requires.sound
