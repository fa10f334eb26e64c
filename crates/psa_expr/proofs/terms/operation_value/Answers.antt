use Rattle.std.proofs.Common.{Ok, Err, refl, ap, ◌∙◌, subst}
use Rattle.psa_model.specs.Values.{on_values}
use Rattle.psa_expr.proofs.Settling.{TermsSettled, settled-operation}
use Rattle.psa_expr.proofs.terms.operation_value.Goals as goal

pub returns-in-Ok : goal.returns-in-Ok
returns-in-Ok c =
    settled-operation c.args.setting.now.mission c.args.setting.now.model.now c.args.group.now c.args.operator c.args.terms.now c.term_values.new.known (Ok c.in-Ok.values) c.operate.result
    (subst (λ r. TermsSettled c.args.setting.now.mission c.args.setting.now.model.now c.args.group.now c.args.terms.now c.term_values.new.known r) c.in-Ok.is c.in_ok-values.ensures)
    (c.operate.ensures ∙ ap (λ vs. on_values c.args.operator (Ok vs)) c.as_slice.ensures)

pub returns-in-Err : goal.returns-in-Err
returns-in-Err c =
    settled-operation c.args.setting.now.mission c.args.setting.now.model.now c.args.group.now c.args.operator c.args.terms.now c.term_values.new.known (Err c.in-Err.fault) (Err c.in-Err.fault)
    (subst (λ r. TermsSettled c.args.setting.now.mission c.args.setting.now.model.now c.args.group.now c.args.terms.now c.term_values.new.known r) c.in-Err.is c.in_ok-values.ensures)
    refl
