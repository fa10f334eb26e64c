use Rattle.std.proofs.lemmas.Result.{err_from_is_err_and}
use Rattle.std.proofs.Common.{◌≡◌, ◌-◌, true, List, sym, ap, ◌∙◌, subst, refl, arith}
use Rattle.std.specs.List.{slice_get, list_all}
use Rattle.psa_model.specs.declared.formula.Formula.{Formula}
use Rattle.psa_model.specs.declared.formula.Formula.TheVariants as variant
use Rattle.psa_model.specs.Truth.{within}
use Rattle.psa_model.proofs.Levels.{some-level, arguments-within, gate-within, basic-stands}
use Rattle.psa_prep.proofs.WalkLemmas.{AllRanked, ends-map, stops-map, ranked-as, ranked-basic, ranked-house, ranked-constant, ranked-connective, ranked-start, ranked-more, ranked-end, ranked-left, ranked-gate, ranked-missing, exceeds-as, exceeds-basic, exceeds-connective, exceeds-gate, exceeds-formulas}
use Rattle.psa_prep.specs.Ranking.{ExceedsAt}
use Rattle.std.specs.List.{flat_map}
use Rattle.psa_model.specs.Ranks.{visits}
use Rattle.psa_prep.proofs.IndexLemmas.{indexed}
use Rattle.psa_prep.proofs.ListLemmas.{all-at}
use Rattle.psa_prep.proofs.ranking.+ranking.Goals as goal

pub rank_formula-rank_gate-requires : goal.rank_formula-rank_gate-requires
rank_formula-rank_gate-requires t c =
    (omega arith, (subst (λ f. within c.args.depth c.args.walk.now.expanded.now.model f ≡ true) c.in-Gate.is c.requires.within, (c.requires.index, c.requires.sound)))

pub rank_formula-rank_events-requires : goal.rank_formula-rank_events-requires
rank_formula-rank_events-requires t c = c.requires.sound.agrees

pub rank_formula-overflow_sub-depth : goal.rank_formula-overflow_sub-depth
rank_formula-overflow_sub-depth t c =
    let some = some-level c.args.depth c.args.walk.now.expanded.now.model c.args.formula.now c.requires.within in omega arith

pub rank_formula-rank_formulas-requires : goal.rank_formula-rank_formulas-requires
rank_formula-rank_formulas-requires t c =
    let some = some-level c.args.depth c.args.walk.now.expanded.now.model c.args.formula.now c.requires.within in
    let whole = subst (λ f. within c.args.depth c.args.walk.now.expanded.now.model f ≡ true) c.in-Connective.is c.requires.within in (
      omega arith,
      (
        subst (λ (gs : List Formula). list_all (λ g. within (c.args.depth - 1) c.args.walk.now.expanded.now.model g) gs ≡ true) (sym c.as_slice.ensures)
            (arguments-within c.args.depth c.args.walk.now.expanded.now.model c.in-Connective.operator c.in-Connective.min c.in-Connective.max c.in-Connective.arguments whole),
        (c.requires.index, c.requires.sound),
      ),
    )

pub rank_formula-returns-in-Gate : goal.rank_formula-returns-in-Gate
rank_formula-returns-in-Gate t c =
    ends-map c.rank_gate.result _ _ _ _ (ranked-as c.args.walk.now.expanded.now c.args.formula.now (variant.Gate c.in-Gate.id) c.args.ranking.now c.rank_gate.new.ranking c.in-Gate.is)
    (exceeds-as c.args.walk.now.expanded.now c.args.formula.now (variant.Gate c.in-Gate.id) c.args.ranking.now c.in-Gate.is) c.rank_gate.ensures

pub rank_formula-returns-in-Basic : goal.rank_formula-returns-in-Basic
rank_formula-returns-in-Basic t c =
    let stands = basic-stands c.args.depth c.args.walk.now.expanded.now.model c.in-Basic.id (subst (λ f. within c.args.depth c.args.walk.now.expanded.now.model f ≡ true) c.in-Basic.is c.requires.within) in
    let are = c.get.ensures ∙ indexed c.args.walk.now.expanded.now c.args.walk.now.index.now c.in-Basic.id.0 c.requires.index stands in
    ends-map c.rank_events.result _ _ _ _ (ranked-basic c.args.walk.now.expanded.now c.args.formula.now c.in-Basic.id c.get.result.now c.args.ranking.now c.rank_events.new.ranking c.in-Basic.is are c.requires.sound)
    (exceeds-basic c.args.walk.now.expanded.now c.args.formula.now c.in-Basic.id c.get.result.now c.args.ranking.now c.in-Basic.is are) c.rank_events.ensures

pub rank_formula-returns-in-Connective : goal.rank_formula-returns-in-Connective
rank_formula-returns-in-Connective t c =
    ends-map c.rank_formulas.result _ _ _ _
    (λ all. ranked-connective c.args.walk.now.expanded.now c.args.formula.now c.in-Connective.operator c.in-Connective.min c.in-Connective.max c.in-Connective.arguments c.args.ranking.now c.rank_formulas.new.ranking c.in-Connective.is
    (subst (λ (gs : List Formula). AllRanked c.args.walk.now.expanded.now gs c.args.ranking.now c.rank_formulas.new.ranking) c.as_slice.ensures all))
    (λ many. exceeds-connective c.args.walk.now.expanded.now c.args.formula.now c.in-Connective.operator c.in-Connective.min c.in-Connective.max c.in-Connective.arguments c.args.ranking.now c.in-Connective.is
    (subst (λ (gs : List Formula). ExceedsAt (λ n. list_all (λ g. within n c.args.walk.now.expanded.now.model g) gs) (λ n. flat_map (λ g. visits n c.args.walk.now.expanded.now g) gs) c.args.ranking.now) c.as_slice.ensures many))
    c.rank_formulas.ensures

pub rank_formula-returns-in-House : goal.rank_formula-returns-in-House
rank_formula-returns-in-House t c = ranked-house c.args.walk.now.expanded.now c.args.formula.now _ c.args.ranking.now c.in-House.is c.requires.sound

pub rank_formula-returns-in-Constant : goal.rank_formula-returns-in-Constant
rank_formula-returns-in-Constant t c = ranked-constant c.args.walk.now.expanded.now c.args.formula.now _ c.args.ranking.now c.in-Constant.is c.requires.sound

pub rank_formulas-loop-formula-init : goal.rank_formulas-loop-formula-init
rank_formulas-loop-formula-init t c = ranked-start c.args.walk.now.expanded.now c.args.ranking.now c.requires.sound

pub rank_formulas-rank_formula-requires : goal.rank_formulas-rank_formula-requires
rank_formulas-rank_formula-requires t c = (
  omega arith,
  (
    all-at (λ g. within c.args.depth c.args.walk.now.expanded.now.model g) c.args.formulas.now c.loop-formula.formula-index c.formula-item.result c.requires.within c.loop-formula-test.true c.formula-item.is,
    (c.requires.index, c.loop-formula.invariant.sound),
  ),
)

pub rank_formulas-loop-formula-preserved : goal.rank_formulas-loop-formula-preserved
rank_formulas-loop-formula-preserved t c =
    ranked-more c.args.walk.now.expanded.now c.args.formulas.now c.loop-formula.formula-index c.formula-item.result _ _ _ c.loop-formula-test.true c.formula-item.is c.loop-formula.invariant c.in_ok-rank_formula.ensures

pub rank_formulas-returns : goal.rank_formulas-returns
rank_formulas-returns t c =
    ranked-end c.args.walk.now.expanded.now c.args.formulas.now c.loop-formula.formula-index _ _ c.loop-formula-test.false c.loop-formula.invariant

pub rank_gate-returns-then-contains : goal.rank_gate-returns-then-contains
rank_gate-returns-then-contains t c =
    ranked-left c.args.walk.now.expanded.now c.args.id c.args.ranking.now (sym c.contains.ensures ∙ c.if-contains.true) c.requires.sound

pub rank_gate-overflow_sub-depth : goal.rank_gate-overflow_sub-depth
rank_gate-overflow_sub-depth t c =
    let some = some-level c.args.depth c.args.walk.now.expanded.now.model (variant.Gate c.args.id) c.requires.within in omega arith

pub rank_gate-rank_formula-requires : goal.rank_gate-rank_formula-requires
rank_gate-rank_formula-requires t c =
    let some = some-level c.args.depth c.args.walk.now.expanded.now.model (variant.Gate c.args.id) c.requires.within in (
      omega arith,
      (
        gate-within c.args.depth c.args.walk.now.expanded.now.model c.args.id c.in-Some.gate.now c.requires.within
            (ap (λ gs. slice_get gs c.args.id.0) (sym c.as_slice.ensures) ∙ sym c.in-Some.ensures),
        (c.requires.index, c.requires.sound),
      ),
    )

pub rank_gate-returns-in_ok-insert-in-Some : goal.rank_gate-returns-in_ok-insert-in-Some
rank_gate-returns-in_ok-insert-in-Some t c =
    ranked-gate c.args.walk.now.expanded.now c.args.id c.in-Some.gate.now c.args.ranking.now _ _
    (ap (λ gs. slice_get gs c.args.id.0) (sym c.as_slice.ensures) ∙ sym c.in-Some.ensures)
    c.in_ok-rank_formula-in-Some.ensures c.in_ok-insert-in-Some.ensures.updates.0 refl refl refl

pub rank_gate-returns-in-None : goal.rank_gate-returns-in-None
rank_gate-returns-in-None t c =
    ranked-missing c.args.walk.now.expanded.now c.args.id c.args.ranking.now
    (ap (λ gs. slice_get gs c.args.id.0) (sym c.as_slice.ensures) ∙ sym c.in-None.ensures) c.requires.sound

pub rank_gate-returns-in_err-rank_formula-in-Some : goal.rank_gate-returns-in_err-rank_formula-in-Some
rank_gate-returns-in_err-rank_formula-in-Some t c =
    let p = err_from_is_err_and c.from_residual.result c.from_residual.ensures.1 in
    rw (p.1, p.2) (stops-map (Unit {0}) (Unit {0}) c.in_err-rank_formula-in-Some.field-0.0 (Unit {0}) _ (Unit {0}) _ (exceeds-gate c.args.walk.now.expanded.now c.args.id c.in-Some.gate.now c.args.ranking.now
    (ap (λ gs. slice_get gs c.args.id.0) (sym c.as_slice.ensures) ∙ sym c.in-Some.ensures)) c.in_err-rank_formula-in-Some.ensures)

pub rank_formulas-returns-in_err-rank_formula : goal.rank_formulas-returns-in_err-rank_formula
rank_formulas-returns-in_err-rank_formula t c =
    let p = err_from_is_err_and c.from_residual.result c.from_residual.ensures.1 in
    rw (p.1, p.2) (stops-map (Unit {0}) (Unit {0}) c.in_err-rank_formula.field-0.0 (Unit {0}) _ (Unit {0}) _ (exceeds-formulas c.args.walk.now.expanded.now c.args.formulas.now c.loop-formula.formula-index c.formula-item.result _ _ c.loop-formula-test.true c.formula-item.is c.loop-formula.invariant) c.in_err-rank_formula.ensures)
