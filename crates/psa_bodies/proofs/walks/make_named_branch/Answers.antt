use Rattle.std.proofs.Common.{ap, ◌∙◌}
use Rattle.psa_model.specs.declared.draft.DefinitionKind.TheVariants as kind
use Rattle.psa_names.specs.Outlines.{entries_of}
use Rattle.psa_names.specs.Ids.{tree_id}
use Rattle.psa_bodies.proofs.WalkForms.{named-branch-made}
use Rattle.psa_bodies.proofs.walks.make_named_branch.Goals as goal

pub returns : goal.returns
returns c =
    named-branch-made c.args.context.now.numbers.now c.args.context.now.draft.now c.args.definition.now c.args.cursor.now c.resolve_branch.new.cursor c.args.collected.now c.resolve_branch.new.collected c.args.branch.now c.in_ok-name.name c.tree_around-tree.result c.in_ok-branch.branch
    c.requires.context.numbers c.requires.kind c.requires.body (c.in_ok-name.ensures ∙ c.as_str.ensures)
    (c.tree_around-tree.ensures kind.EventTree c.requires.context.event_trees c.requires.context.distinct_event_trees ∙ ap (tree_id kind.EventTree (entries_of c.args.context.now.draft.now)) c.as_slice-container.ensures)
    c.in_ok-branch.ensures
