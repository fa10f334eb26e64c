use Rattle.psa_cycles.proofs.AddedElements.{on-ok}
use Rattle.psa_cycles.proofs.BodyForms.{tree-pushed, other-pushed}
use Rattle.psa_cycles.proofs.definitions.push_definition.Goals as goal

pub returns-in-EventTree : goal.returns-in-EventTree
returns-in-EventTree c =
    on-ok c.push_body.result _ _ (λ h. tree-pushed c.args.definition.now c.members_of.result.now c.args.levels.now _ _ _ c.in-EventTree.is c.members_of.ensures c.in_ok-push_members.ensures c.push_plain.ensures h) c.push_body.ensures

pub returns-in_default : goal.returns-in_default
returns-in_default c =
    on-ok c.push_body-in_default.result _ _ (λ h. other-pushed c.args.definition.now c.members_of.result.now c.args.levels.now _ _ c.in_default.not-EventTree c.members_of.ensures c.in_ok-push_members.ensures h) c.push_body-in_default.ensures
