use Rattle.std.proofs.Common.{◌∙◌}
use Rattle.psa_bodies.proofs.MadeDefinitions.{initiating-made}
use Rattle.psa_bodies.proofs.definitions.make_initiating_event.Goals as goal

pub returns : goal.returns
returns c =
    initiating-made c.args.context.now.numbers.now c.args.context.now.draft.now c.args.definition.now c.args.cursor.now c.make_link-tree.new.cursor c.args.tree.now c.in_ok-name.name c.make_link-tree.result
    c.requires.context.numbers c.requires.kind c.requires.body (c.in_ok-name.ensures ∙ c.as_str.ensures) c.make_link-tree.ensures
