use Rattle.psa_model.specs.declared.expanded.ExpandedEvent.TheVariants.{Basic, Member, Shared}
use Rattle.psa_expr.proofs.Settling.{if-ok}
use Rattle.psa_expr.proofs.Valuing.{event-same}
use Rattle.psa_expr.proofs.events.event_value.Goals as goal

pub returns-in-Basic-clause-value : goal.returns-in-Basic-clause-value
returns-in-Basic-clause-value c =
    if-ok _ _ (λ r answered. event-same c.args.setting.now.mission c.args.setting.now.model.now c.args.event (Basic c.in-Basic.id) c.basic_value.new.known r c.in-Basic.is answered)
    c.basic_value.result c.basic_value.ensures

pub returns-in-Member-clause-value : goal.returns-in-Member-clause-value
returns-in-Member-clause-value c =
    if-ok _ _ (λ r answered. event-same c.args.setting.now.mission c.args.setting.now.model.now c.args.event (Member c.in-Member.id c.in-Member.field-1) c.member_value.new.known r c.in-Member.is answered)
    c.member_value.result (c.member_value.ensures c.in-Member.field-1)

pub returns-in-Shared-clause-value : goal.returns-in-Shared-clause-value
returns-in-Shared-clause-value c =
    if-ok _ _ (λ r answered. event-same c.args.setting.now.mission c.args.setting.now.model.now c.args.event (Shared c.in-Shared.id c.in-Shared.subset) c.shared_value.new.known r c.in-Shared.is answered)
    c.shared_value.result c.shared_value.ensures.value
