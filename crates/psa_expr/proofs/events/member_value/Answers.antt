use Rattle.std.proofs.Common.{ap, ◌∙◌, arith}
use Rattle.std.specs.List.{slice_get}
use Rattle.psa_model.specs.declared.expanded.ExpandedEvent.TheVariants.{Member}
use Rattle.psa_expr.specs.Terms.{own_levels}
use Rattle.psa_expr.proofs.Settling.{settled-valued}
use Rattle.psa_expr.proofs.Valuing.{event-settled, member-expression, group-within}
use Rattle.psa_expr.proofs.events.member_value.Goals as goal

pub returns-in_ok-expression_value-in-Some : goal.returns-in_ok-expression_value-in-Some
returns-in_ok-expression_value-in-Some c = λ place.
    event-settled c.args.setting.now.mission c.args.setting.now.model.now (Member c.args.id place) own_levels c.in-Some.group.now.distribution c.expression_value.new.known c.in_ok-expression_value-in-Some.field-0 c.finish.result (omega arith)
    (member-expression c.args.setting.now.model.now c.args.id place c.in-Some.group.now
    (c.in-Some.ensures ∙ ap (λ gs. slice_get gs c.args.id.0) c.as_slice.ensures))
    (settled-valued c.args.setting.now.mission c.args.setting.now.model.now own_levels c.in-Some.group.now.distribution c.expression_value.new.known c.in_ok-expression_value-in-Some.field-0 (group-within c.args.setting.now.model.now c.args.id c.in-Some.group.now c.requires.values (c.in-Some.ensures ∙ ap (λ gs. slice_get gs c.args.id.0) c.as_slice.ensures)) c.in_ok-expression_value-in-Some.ensures)
    c.finish.ensures
