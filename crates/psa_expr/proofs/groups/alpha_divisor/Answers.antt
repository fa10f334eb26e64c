use Rattle.std.proofs.Common.{◌+◌, ◌-◌, ◌∷◌, [], Ok, map, ap, ◌∙◌, arith}
use Rattle.psa_model.specs.declared.expression.Expression.TheVariants as expression
use Rattle.psa_model.specs.declared.expression.ExpressionOperator.TheVariants.{Add, Mul}
use Rattle.psa_model.specs.Expansion.{choose, whole_number}
use Rattle.psa_model.specs.Values.{all_computed, on_values}
use Rattle.psa_expr.specs.Combined.{whole_ends}
use Rattle.psa_expr.specs.Terms.{own_levels, term_expression}
use Rattle.psa_expr.proofs.Quantities.{alpha-expressions}
use Rattle.psa_expr.proofs.Settling.{settled-two, settled-same, whole-value}
use Rattle.psa_expr.proofs.groups.alpha_divisor.Goals as goal

pub returns : goal.returns
returns c =
    let sum = settled-same c.args.setting.now.mission c.args.setting.now.model.now (own_levels + 2) _ _ c.operation_value.new.known c.in_ok-sum.sum
    (ap (λ es. expression.Operation Add es) (ap (map (term_expression c.args.group.now)) (c.as_slice.ensures ∙ c.in_ok-terms.ensures.terms) ∙ alpha-expressions c.args.group.now c.args.count))
    c.in_ok-sum.ensures in
    settled-two c.args.setting.now.mission c.args.setting.now.model.now (own_levels + 2) Mul (whole_number (choose (c.args.count - 1) (c.args.size - 1))) _ c.operation_value.new.known (Ok (whole_ends (choose (c.args.count - 1) (c.args.size - 1)))) c.in_ok-sum.sum c.operate_on_two.result
    sum.right
    (λ n l. whole-value c.args.setting.now.mission c.args.setting.now.model.now (choose (c.args.count - 1) (c.args.size - 1)) n (omega (arith, l)))
    sum.is
    (c.operate_on_two.ensures ∙ ap (λ a. on_values Mul (all_computed (Ok a ∷ c.in_ok-sum.sum ∷ []))) (c.whole-subsets.ensures ∙ ap whole_ends c.subsets_with_a_member.ensures.exact))
