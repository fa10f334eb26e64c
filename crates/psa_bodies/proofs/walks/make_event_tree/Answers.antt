use Rattle.std.proofs.Common.{◌∙◌}
use Rattle.psa_bodies.proofs.WalkForms.{event-tree-made}
use Rattle.psa_bodies.proofs.walks.make_event_tree.Goals as goal

pub returns : goal.returns
returns c =
    event-tree-made c.args.context.now.numbers.now c.args.context.now.draft.now c.args.definition.now c.args.cursor.now c.resolve_branch.new.cursor c.args.collected.now c.resolve_branch.new.collected c.args.start.now c.in_ok-name.name c.in_ok-start.start
    c.requires.context.numbers c.requires.kind c.requires.body (c.in_ok-name.ensures ∙ c.as_str.ensures) c.in_ok-start.ensures
