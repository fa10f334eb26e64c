use Rattle.std.proofs.Common.{ap, ◌∙◌}
use Rattle.psa_model.specs.declared.draft.DefinitionKind.TheVariants as kind
use Rattle.psa_names.specs.Outlines.{entries_of}
use Rattle.psa_names.specs.Ids.{tree_id}
use Rattle.psa_bodies.proofs.WalkForms.{sequence-made}
use Rattle.psa_bodies.proofs.walks.make_sequence.Goals as goal

pub returns : goal.returns
returns c =
    sequence-made c.args.context.now.numbers.now c.args.context.now.draft.now c.args.definition.now c.args.cursor.now c.resolve_instructions.new.cursor c.make_link-link.new.cursor c.args.collected.now c.resolve_instructions.new.collected c.args.instructions.now c.as_slice-steps.result.now c.args.link.now c.in_ok-name.name c.tree_around-tree.result c.in_ok-instructions.instructions c.make_link-link.result
    c.requires.context.numbers c.requires.kind c.requires.body c.as_slice-steps.ensures (c.in_ok-name.ensures ∙ c.as_str.ensures)
    (c.tree_around-tree.ensures kind.EventTree c.requires.context.event_trees c.requires.context.distinct_event_trees ∙ ap (tree_id kind.EventTree (entries_of c.args.context.now.draft.now)) c.as_slice-container.ensures)
    c.in_ok-instructions.ensures c.make_link-link.ensures
