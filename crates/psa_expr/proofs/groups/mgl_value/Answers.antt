use Rattle.std.proofs.Common.{◌+◌, ◌-◌, ◌∷◌, [], Ok, map, ap, ◌∙◌, arith}
use Rattle.psa_model.specs.declared.expression.Expression.TheVariants as expression
use Rattle.psa_model.specs.declared.expression.ExpressionOperator.TheVariants.{Div, Mul}
use Rattle.psa_model.specs.Expansion.{choose, whole_number}
use Rattle.psa_model.specs.Values.{all_computed, on_values}
use Rattle.psa_expr.specs.Combined.{whole_ends}
use Rattle.psa_expr.specs.Terms.{own_levels, term_expression}
use Rattle.psa_expr.proofs.Quantities.{mgl-expressions}
use Rattle.psa_expr.proofs.Settling.{settled-two, settled-same, settled-later, whole-value}
use Rattle.psa_expr.proofs.groups.mgl_value.Goals as goal

pub returns : goal.returns
returns c =
    let product = settled-same c.args.setting.now.mission c.args.setting.now.model.now (own_levels + 2) _ _ c.operation_value.new.known c.in_ok-product.product
    (ap (λ es. expression.Operation Mul es) (ap (map (term_expression c.args.group.now)) (c.as_slice.ensures ∙ c.in_ok-terms.ensures.terms) ∙ mgl-expressions c.args.group.now c.args.count c.args.size))
    c.in_ok-product.ensures in
    settled-later c.args.setting.now.mission c.args.setting.now.model.now (own_levels + 3) (own_levels + 4) _ c.operation_value.new.known c.operate_on_two.result (omega arith)
    (settled-two c.args.setting.now.mission c.args.setting.now.model.now (own_levels + 2) Div _ (whole_number (choose (c.args.count - 1) (c.args.size - 1))) c.operation_value.new.known c.in_ok-product.product (Ok (whole_ends (choose (c.args.count - 1) (c.args.size - 1)))) c.operate_on_two.result
    product.right
    product.is
    (λ n l. whole-value c.args.setting.now.mission c.args.setting.now.model.now (choose (c.args.count - 1) (c.args.size - 1)) n (omega (arith, l)))
    (c.operate_on_two.ensures ∙ ap (λ a. on_values Div (all_computed (c.in_ok-product.product ∷ Ok a ∷ []))) (c.whole-divisor.ensures ∙ ap whole_ends c.subsets_with_a_member.ensures.exact)))
