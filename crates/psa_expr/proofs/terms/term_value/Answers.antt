use Rattle.std.proofs.Common.{◌∷◌, [], Ok, sym, ap, ◌∙◌, ◌+◌, arith}
use Rattle.std.proofs.lemmas.Bool.{and_parts}
use Rattle.std.specs.List.{list_all}
use Rattle.psa_model.specs.declared.expression.ExpressionOperator.TheVariants.{Sub, Mul}
use Rattle.psa_model.specs.Expansion.{factor_at, whole_number}
use Rattle.psa_model.specs.Values.{all_computed, on_values, value_within}
use Rattle.psa_expr.specs.Terms.{own_levels, term_expression}
use Rattle.psa_expr.proofs.Settling.{settled-valued, settled-same, settled-later, settled-whole, settled-two, whole-value, if-ok}
use Rattle.psa_expr.proofs.terms.term_value.Goals as goal

pub returns-in-Whole : goal.returns-in-Whole
returns-in-Whole c =
    settled-same c.args.setting.now.mission c.args.setting.now.model.now (own_levels + 1) _ _ c.args.known.now _
    (sym (ap (term_expression c.args.group.now) c.in-Whole.is))
    (settled-whole c.args.setting.now.mission c.args.setting.now.model.now (own_levels + 1) c.in-Whole.value c.args.known.now _ (omega arith) c.requires.right c.whole.ensures)

pub returns-in-Distribution : goal.returns-in-Distribution
returns-in-Distribution c =
    if-ok _ _
    (λ r valued.
    settled-same c.args.setting.now.mission c.args.setting.now.model.now (own_levels + 1) c.args.group.now.distribution _ c.expression_value.new.known r
    (sym (ap (term_expression c.args.group.now) c.in-Distribution.is))
    (settled-later c.args.setting.now.mission c.args.setting.now.model.now own_levels (own_levels + 1) c.args.group.now.distribution c.expression_value.new.known r (omega arith)
    (settled-valued c.args.setting.now.mission c.args.setting.now.model.now own_levels c.args.group.now.distribution c.expression_value.new.known r
    ((and_parts (value_within own_levels c.args.setting.now.model.now c.args.group.now.distribution) (list_all (λ f. value_within own_levels c.args.setting.now.model.now f.expression) c.args.group.now.factors) c.requires.values).0) valued)))
    c.expression_value.result c.expression_value.ensures

pub returns-in_ok-factor-in-Remainder : goal.returns-in_ok-factor-in-Remainder
returns-in_ok-factor-in-Remainder c =
    settled-same c.args.setting.now.mission c.args.setting.now.model.now (own_levels + 1) _ _ c.factor_value-in-Remainder.new.known c.operate_on_two.result
    (sym (ap (term_expression c.args.group.now) c.in-Remainder.is))
    (settled-two c.args.setting.now.mission c.args.setting.now.model.now own_levels Sub (whole_number 1) (factor_at c.args.group.now c.in-Remainder.level) c.factor_value-in-Remainder.new.known _ c.in_ok-factor-in-Remainder.factor c.operate_on_two.result
    c.in_ok-factor-in-Remainder.ensures.right
    (λ n l. whole-value c.args.setting.now.mission c.args.setting.now.model.now 1 n (omega (arith, l)))
    c.in_ok-factor-in-Remainder.ensures.is
    (c.operate_on_two.ensures ∙ ap (λ a. on_values Sub (all_computed (Ok a ∷ c.in_ok-factor-in-Remainder.factor ∷ []))) c.whole-in-Remainder.ensures))

pub returns-in_ok-factor-in-Weighted : goal.returns-in_ok-factor-in-Weighted
returns-in_ok-factor-in-Weighted c =
    settled-same c.args.setting.now.mission c.args.setting.now.model.now (own_levels + 1) _ _ c.factor_value-in-Weighted.new.known c.operate_on_two-in-Weighted.result
    (sym (ap (term_expression c.args.group.now) c.in-Weighted.is))
    (settled-two c.args.setting.now.mission c.args.setting.now.model.now own_levels Mul (whole_number c.in-Weighted.level) (factor_at c.args.group.now c.in-Weighted.level) c.factor_value-in-Weighted.new.known _ c.in_ok-factor-in-Weighted.factor c.operate_on_two-in-Weighted.result
    c.in_ok-factor-in-Weighted.ensures.right
    (λ n l. whole-value c.args.setting.now.mission c.args.setting.now.model.now c.in-Weighted.level n (omega (arith, l)))
    c.in_ok-factor-in-Weighted.ensures.is
    (c.operate_on_two-in-Weighted.ensures ∙ ap (λ a. on_values Mul (all_computed (Ok a ∷ c.in_ok-factor-in-Weighted.factor ∷ []))) c.whole-in-Weighted.ensures))
