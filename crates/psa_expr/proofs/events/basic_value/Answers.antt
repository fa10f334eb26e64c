use Rattle.std.proofs.Common.{ap, ◌∙◌, arith}
use Rattle.std.specs.List.{slice_get}
use Rattle.psa_model.specs.declared.expanded.ExpandedEvent.TheVariants.{Basic}
use Rattle.psa_expr.specs.Terms.{own_levels}
use Rattle.psa_expr.proofs.Settling.{settled-valued}
use Rattle.psa_expr.proofs.Valuing.{event-settled, basic-expression, basic-within}
use Rattle.psa_expr.proofs.events.basic_value.Goals as goal

pub returns-in_ok-expression_value-in-Some-expression : goal.returns-in_ok-expression_value-in-Some-expression
returns-in_ok-expression_value-in-Some-expression c =
    event-settled c.args.setting.now.mission c.args.setting.now.model.now (Basic c.args.id) own_levels c.in-Some-expression.expression c.expression_value.new.known c.in_ok-expression_value-in-Some-expression.field-0 c.finish.result (omega arith)
    (basic-expression c.args.setting.now.model.now c.args.id c.in-Some.basic.now c.in-Some-expression.expression
    (c.in-Some.ensures ∙ ap (λ bs. slice_get bs c.args.id.0) c.as_slice.ensures) c.in-Some-expression.is)
    (settled-valued c.args.setting.now.mission c.args.setting.now.model.now own_levels c.in-Some-expression.expression c.expression_value.new.known c.in_ok-expression_value-in-Some-expression.field-0 (basic-within c.args.setting.now.model.now c.args.id c.in-Some.basic.now c.in-Some-expression.expression c.requires.values (c.in-Some.ensures ∙ ap (λ bs. slice_get bs c.args.id.0) c.as_slice.ensures) c.in-Some-expression.is) c.in_ok-expression_value-in-Some-expression.ensures)
    c.finish.ensures
