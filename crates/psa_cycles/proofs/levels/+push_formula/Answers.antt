use Rattle.std.proofs.Common.{arith, ◌+◌, ◌∙◌}
use Rattle.psa_names.specs.Outlines.{formula_outline}
use Rattle.psa_cycles.proofs.AddedElements.{on-ok, pushed-none, pushed-more}
use Rattle.psa_cycles.proofs.BodyForms.{formula-inside, formula-event, formula-constant, formula-connective}
use Rattle.psa_cycles.proofs.levels.+push_formula.Goals as goal

pub push_formula-requires : goal.push_formula-requires
push_formula-requires t c =
    let inside = formula-inside c.args.formula.now c.in-Connective.operator c.in-Connective.min c.in-Connective.max c.in-Connective.arguments c.as_slice-argument-items.result.now c.loop-argument.argument-index c.argument-item.result c.in-Connective.is c.as_slice-argument-items.ensures c.loop-argument-test.true c.argument-item.is in
    (omega arith, omega arith)

pub loop-argument-init : goal.loop-argument-init
loop-argument-init t c = c.push_plain-in-Connective.ensures ∙ pushed-none (c.args.around + 1) _

pub loop-argument-preserved : goal.loop-argument-preserved
loop-argument-preserved t c =
    pushed-more formula_outline (c.args.around + 1) c.as_slice-argument-items.result.now c.loop-argument.argument-index c.argument-item.result _ _ _ c.loop-argument-test.true c.argument-item.is c.loop-argument.invariant c.in_ok-push_formula-in-Connective.ensures

pub returns-after-loop-argument : goal.returns-after-loop-argument
returns-after-loop-argument t c =
    formula-connective c.args.around c.args.formula.now c.in-Connective.operator c.in-Connective.min c.in-Connective.max c.in-Connective.arguments c.as_slice-argument-items.result.now c.loop-argument.argument-index c.args.levels.now c.loop-argument.levels
    c.in-Connective.is c.as_slice-argument-items.ensures c.loop-argument-test.false c.loop-argument.invariant

pub returns-in-Event : goal.returns-in-Event
returns-in-Event t c = on-ok c.push_naming.result _ _ (λ h. formula-event c.args.around c.args.formula.now _ _ c.args.levels.now _ c.in-Event.is h) c.push_naming.ensures

pub returns-in-Constant : goal.returns-in-Constant
returns-in-Constant t c = formula-constant c.args.around c.args.formula.now _ c.args.levels.now _ c.in-Constant.is c.push_plain.ensures
