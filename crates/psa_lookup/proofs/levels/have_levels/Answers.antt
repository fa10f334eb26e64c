use Rattle.std.proofs.Common.{◌+◌, sym, ap, ◌∙◌, eq-eqb}
use Rattle.std.specs.List.{list_all}
use Rattle.psa_lookup.proofs.LevelLemmas.{has_one, levels-short, levels-fail, levels-pass, level-passed, level-failed, range-end, is-one}
use Rattle.psa_lookup.proofs.levels.have_levels.Goals as goal

pub returns-then-factors-last : goal.returns-then-factors-last
returns-then-factors-last c =
    levels-short c.args.model c.args.members c.first_level-first.result c.args.factors.now c.first_level-first.ensures.levels c.if-factors-last.true

pub returns-then-count_at-ne1 : goal.returns-then-count_at-ne1
returns-then-count_at-ne1 c =
    sym (levels-fail c.args.model c.args.members c.first_level-first.result c.args.factors.now c.first_level-first.ensures.levels
    (sym c.loop-level.invariant
    ∙ level-failed c.args.model c.args.members c.args.factors.now c.loop-level.level (c.args.members + 1) c.loop-level-test.true
    (is-one _ (λ h. c.if-count_at-ne1.true (c.count_at.ensures ∙ h)))))

pub loop-level-preserved : goal.loop-level-preserved
loop-level-preserved c =
    level-passed c.args.model c.args.members c.args.factors.now c.loop-level.level (c.args.members + 1) c.loop-level-test.true
    (eq-eqb _ 1 (sym c.count_at.ensures ∙ c.if-count_at-ne1.false))
    ∙ c.loop-level.invariant

pub returns : goal.returns
returns c =
    levels-pass c.args.model c.args.members c.first_level-first.result c.args.factors.now c.first_level-first.ensures.levels c.if-factors-last.false
    (sym c.loop-level.invariant
    ∙ ap (list_all (has_one c.args.model c.args.members c.args.factors.now)) (range-end c.loop-level.level (c.args.members + 1) c.loop-level-test.false))
