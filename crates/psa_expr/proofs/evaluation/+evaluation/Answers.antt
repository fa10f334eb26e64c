use Rattle.std.proofs.Common.{◌≡◌, ◌-◌, true, List, Err, Ok, sym, ap, ◌∙◌, subst, refl, arith}
use Rattle.std.specs.List.{slice_get, list_all}
use Rattle.psa_model.specs.declared.expression.Expression.{Expression}
use Rattle.psa_model.specs.declared.expression.Expression.TheVariants as expression
use Rattle.psa_model.specs.Values.{on_values, value_within}
use Rattle.psa_expr.specs.Answers.{is_enough}
use Rattle.psa_expr.proofs.Forms.{some-level, within-operation}
use Rattle.psa_expr.proofs.Evaluating.{Valued, ListValued, valued-number, valued-mission, valued-operation, parameter-within, valued-parameter, valued-parameter-fault, valued-missing, gathered-more, gathered-failed, gathered-all}
use Rattle.psa_expr.proofs.evaluation.+evaluation.Goals as goal

pub argument_values-returns-in-Err : goal.argument_values-returns-in-Err
argument_values-returns-in-Err t c =
    gathered-failed c.args.setting.now.mission c.args.setting.now.model.now c.args.arguments.now c.loop-argument.argument-index c.argument-item.result c.loop-argument.known c.expression_value.new.known c.loop-argument.values c.in-Err.fault c.loop-argument-test.true c.argument-item.is c.loop-argument.invariant
    (subst (λ r. Valued c.args.setting.now.mission c.args.setting.now.model.now c.argument-item.result c.expression_value.new.known r) c.in-Err.is c.in_ok-value.ensures)

pub argument_values-loop-argument-preserved : goal.argument_values-loop-argument-preserved
argument_values-loop-argument-preserved t c =
    gathered-more c.args.setting.now.mission c.args.setting.now.model.now c.args.arguments.now c.loop-argument.argument-index c.argument-item.result c.loop-argument.known c.expression_value.new.known c.loop-argument.values _ c.in-Ok.value c.loop-argument-test.true c.argument-item.is c.loop-argument.invariant
    (subst (λ r. Valued c.args.setting.now.mission c.args.setting.now.model.now c.argument-item.result c.expression_value.new.known r) c.in-Ok.is c.in_ok-value.ensures)
    c.in_ok-push-in-Ok.ensures.ok

pub argument_values-returns : goal.argument_values-returns
argument_values-returns t c =
    gathered-all c.args.setting.now.mission c.args.setting.now.model.now c.args.arguments.now c.loop-argument.argument-index c.loop-argument.known c.loop-argument.values c.loop-argument-test.false c.loop-argument.invariant

pub expression_value-overflow_sub-depth : goal.expression_value-overflow_sub-depth
expression_value-overflow_sub-depth t c =
    let some = some-level c.args.depth c.args.setting.now.model.now c.args.expression.now c.requires.within in omega arith

pub expression_value-argument_values-requires : goal.expression_value-argument_values-requires
expression_value-argument_values-requires t c =
    let some = some-level c.args.depth c.args.setting.now.model.now c.args.expression.now c.requires.within in
    let whole = subst (λ f. value_within c.args.depth c.args.setting.now.model.now f ≡ true) c.in-Operation.is c.requires.within in (
      omega arith,
      (
        subst (λ (gs : List Expression). list_all (λ g. is_enough c.args.setting.now.model.now g (c.args.depth - 1)) gs ≡ true) (sym c.as_slice-arguments.ensures)
            (within-operation c.args.depth c.args.setting.now.model.now c.in-Operation.operator c.in-Operation.arguments whole),
        c.requires.right,
      ),
    )

pub expression_value-returns-in-Number : goal.expression_value-returns-in-Number
expression_value-returns-in-Number t c =
    valued-number c.args.setting.now.mission c.args.setting.now.model.now c.args.expression.now c.in-Number.decimal c.args.known.now _ c.in-Number.is c.requires.right c.interval_of.ensures.exact

pub expression_value-returns-in-MissionTime : goal.expression_value-returns-in-MissionTime
expression_value-returns-in-MissionTime t c =
    valued-mission c.args.setting.now.mission c.args.setting.now.model.now c.args.expression.now c.args.known.now _ c.in-MissionTime.is c.requires.right c.interval_of-in-MissionTime.ensures.exact

pub expression_value-returns-in-Ok : goal.expression_value-returns-in-Ok
expression_value-returns-in-Ok t c =
    valued-operation c.args.setting.now.mission c.args.setting.now.model.now c.args.expression.now c.in-Operation.operator c.in-Operation.arguments c.as_slice-arguments.result.now c.argument_values.new.known (Ok c.in-Ok.values) c.operate.result c.in-Operation.is c.as_slice-arguments.ensures
    (subst (λ r. ListValued c.args.setting.now.mission c.args.setting.now.model.now c.as_slice-arguments.result.now c.argument_values.new.known r) c.in-Ok.is c.in_ok-values-in-Operation.ensures)
    (c.operate.ensures ∙ ap (λ vs. on_values c.in-Operation.operator (Ok vs)) c.as_slice.ensures)

pub expression_value-returns-in-Err : goal.expression_value-returns-in-Err
expression_value-returns-in-Err t c =
    valued-operation c.args.setting.now.mission c.args.setting.now.model.now c.args.expression.now c.in-Operation.operator c.in-Operation.arguments c.as_slice-arguments.result.now c.argument_values.new.known (Err c.in-Err.fault) (Err c.in-Err.fault) c.in-Operation.is c.as_slice-arguments.ensures
    (subst (λ r. ListValued c.args.setting.now.mission c.args.setting.now.model.now c.as_slice-arguments.result.now c.argument_values.new.known r) c.in-Err.is c.in_ok-values-in-Operation.ensures)
    refl

pub parameter_value-overflow_sub-depth : goal.parameter_value-overflow_sub-depth
parameter_value-overflow_sub-depth t c =
    let some = some-level c.args.depth c.args.setting.now.model.now (expression.Parameter c.args.id) c.requires.within in omega arith

pub parameter_value-expression_value-requires : goal.parameter_value-expression_value-requires
parameter_value-expression_value-requires t c =
    let some = some-level c.args.depth c.args.setting.now.model.now (expression.Parameter c.args.id) c.requires.within in (
      omega arith,
      (
        parameter-within c.args.setting.now.model.now c.args.id c.in-Some-at.parameter.now c.args.depth
            (ap (λ ps. slice_get ps c.args.id.0) (sym c.as_slice.ensures) ∙ sym c.in-Some-at.ensures) c.requires.within,
        c.requires.right,
      ),
    )

pub parameter_value-returns-in-None : goal.parameter_value-returns-in-None
parameter_value-returns-in-None t c =
    valued-missing c.args.setting.now.mission c.args.setting.now.model.now c.args.id c.args.known.now
    (ap (λ ps. slice_get ps c.args.id.0) (sym c.as_slice.ensures) ∙ sym c.in-None.ensures) c.requires.right

pub parameter_value-returns-in-Ok : goal.parameter_value-returns-in-Ok
parameter_value-returns-in-Ok t c =
    valued-parameter c.args.setting.now.mission c.args.setting.now.model.now c.args.id c.in-Some-at.parameter.now c.expression_value.new.known _ c.in-Ok.value
    (ap (λ ps. slice_get ps c.args.id.0) (sym c.as_slice.ensures) ∙ sym c.in-Some-at.ensures)
    (subst (λ r. Valued c.args.setting.now.mission c.args.setting.now.model.now c.in-Some-at.parameter.now.expression c.expression_value.new.known r) c.in-Ok.is c.in_ok-value-in-Some-at.ensures)
    c.record_value.ensures.only

pub parameter_value-returns-in-Err : goal.parameter_value-returns-in-Err
parameter_value-returns-in-Err t c =
    valued-parameter-fault c.args.setting.now.mission c.args.setting.now.model.now c.args.id c.in-Some-at.parameter.now c.expression_value.new.known c.in-Err.fault
    (ap (λ ps. slice_get ps c.args.id.0) (sym c.as_slice.ensures) ∙ sym c.in-Some-at.ensures)
    (subst (λ r. Valued c.args.setting.now.mission c.args.setting.now.model.now c.in-Some-at.parameter.now.expression c.expression_value.new.known r) c.in-Err.is c.in_ok-value-in-Some-at.ensures)
