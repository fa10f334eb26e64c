use Rattle.std.proofs.Common.{arith, ◌+◌, ◌∙◌, ap}
use Rattle.psa_names.specs.Outlines.{expression_layer, expression_outline}
use Rattle.psa_names.proofs.Forms.{at-number}
use Rattle.psa_cycles.proofs.AddedElements.{on-ok, pushed-none, pushed-more}
use Rattle.psa_cycles.proofs.BodyForms.{expression-inside, expression-number, expression-parameter, mission-outline, expression-operation}
use Rattle.psa_cycles.proofs.levels.+push_expression.Goals as goal

pub push_expression-requires : goal.push_expression-requires
push_expression-requires t c =
    let inside = expression-inside c.args.expression.now c.in-Operation.operator c.in-Operation.arguments c.as_slice-argument-items.result.now c.loop-argument.argument-index c.argument-item.result c.in-Operation.is c.as_slice-argument-items.ensures c.loop-argument-test.true c.argument-item.is in
    (omega arith, omega arith)

pub loop-argument-init : goal.loop-argument-init
loop-argument-init t c = c.push_plain-in-Operation.ensures ∙ pushed-none (c.args.around + 1) _

pub loop-argument-preserved : goal.loop-argument-preserved
loop-argument-preserved t c =
    pushed-more expression_outline (c.args.around + 1) c.as_slice-argument-items.result.now c.loop-argument.argument-index c.argument-item.result _ _ _ c.loop-argument-test.true c.argument-item.is c.loop-argument.invariant c.in_ok-push_expression-in-Operation.ensures

pub returns-after-loop-argument : goal.returns-after-loop-argument
returns-after-loop-argument t c =
    expression-operation c.args.around c.args.expression.now c.in-Operation.operator c.in-Operation.arguments c.as_slice-argument-items.result.now c.loop-argument.argument-index c.args.levels.now c.loop-argument.levels
    c.in-Operation.is c.as_slice-argument-items.ensures c.loop-argument-test.false c.loop-argument.invariant

pub returns-in-Number : goal.returns-in-Number
returns-in-Number t c =
    expression-number c.args.around c.args.expression.now c.args.levels.now _ (ap expression_outline c.in-Number.is ∙ at-number expression_layer _) c.push_plain.ensures

pub returns-in-Parameter : goal.returns-in-Parameter
returns-in-Parameter t c = on-ok c.push_naming.result _ _ (λ h. expression-parameter c.args.around c.args.expression.now _ c.args.levels.now _ c.in-Parameter.is h) c.push_naming.ensures

pub returns-in-MissionTime : goal.returns-in-MissionTime
returns-in-MissionTime t c = expression-number c.args.around c.args.expression.now c.args.levels.now _ (mission-outline c.args.expression.now c.in-MissionTime.is) c.push_plain-in-MissionTime.ensures
