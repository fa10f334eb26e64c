use Rattle.std.proofs.Common.{◌+◌, ◌∷◌, [], Ok, ◌∙◌, sym, arith}
use Rattle.psa_model.specs.declared.expression.ExpressionOperator.TheVariants.{Div}
use Rattle.psa_model.specs.Expansion.{factor_at, product_of, whole_number}
use Rattle.psa_expr.specs.Groups.{alpha_divisor_of}
use Rattle.psa_expr.specs.Terms.{own_levels}
use Rattle.psa_expr.proofs.Quantities.{alpha-share}
use Rattle.psa_expr.proofs.Settling.{settled-two, settled-same, settled-first-fault}
use Rattle.psa_expr.proofs.groups.alpha_value.Goals as goal

pub returns-in_ok-divisor-in-Ok : goal.returns-in_ok-divisor-in-Ok
returns-in_ok-divisor-in-Ok c =
    let share = settled-same c.args.setting.now.mission c.args.setting.now.model.now (own_levels + 2) _ _ c.operation_value.new.known c.in_ok-share.field-0
    (alpha-share c.args.group.now c.args.size _ c.from-level.ensures) c.in_ok-share.ensures in
    settled-two c.args.setting.now.mission c.args.setting.now.model.now (own_levels + 3) Div
    (product_of (whole_number c.args.size ∷ factor_at c.args.group.now c.args.size ∷ c.args.group.now.distribution ∷ [])) (alpha_divisor_of c.args.group.now c.args.count c.args.size)
    c.alpha_divisor.new.known (Ok c.in-Ok.share) c.in_ok-divisor-in-Ok.divisor c.operate_on_two.result
    c.in_ok-divisor-in-Ok.ensures.right
    (λ n l. sym c.in-Ok.is ∙ share.is n (omega (arith, l)))
    c.in_ok-divisor-in-Ok.ensures.is
    c.operate_on_two.ensures

pub returns-in-Err : goal.returns-in-Err
returns-in-Err c =
    let share = settled-same c.args.setting.now.mission c.args.setting.now.model.now (own_levels + 2) _ _ c.operation_value.new.known c.in_ok-share.field-0
    (alpha-share c.args.group.now c.args.size _ c.from-level.ensures) c.in_ok-share.ensures in
    settled-first-fault c.args.setting.now.mission c.args.setting.now.model.now (own_levels + 3) Div
    (product_of (whole_number c.args.size ∷ factor_at c.args.group.now c.args.size ∷ c.args.group.now.distribution ∷ [])) (alpha_divisor_of c.args.group.now c.args.count c.args.size)
    c.operation_value.new.known c.in-Err.fault share.right
    (λ n l. sym c.in-Err.is ∙ share.is n (omega (arith, l)))
