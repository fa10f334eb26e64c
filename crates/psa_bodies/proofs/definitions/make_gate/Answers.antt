use Rattle.std.proofs.Common.{ap, ◌∙◌}
use Rattle.psa_model.specs.declared.draft.DefinitionKind.TheVariants as kind
use Rattle.psa_names.specs.Outlines.{entries_of}
use Rattle.psa_names.specs.Ids.{tree_id}
use Rattle.psa_bodies.proofs.MadeDefinitions.{gate-made}
use Rattle.psa_bodies.proofs.definitions.make_gate.Goals as goal

pub returns : goal.returns
returns c =
    gate-made c.args.context.now.numbers.now c.args.context.now.draft.now c.args.definition.now c.args.cursor.now c.resolve_formula.new.cursor c.args.formula.now c.in_ok-name.name c.tree_around-tree.result c.in_ok-formula.formula
    c.requires.context.numbers c.requires.kind c.requires.body c.in_ok-name.ensures
    (c.tree_around-tree.ensures kind.FaultTree c.requires.context.fault_trees c.requires.context.distinct_fault_trees ∙ ap (tree_id kind.FaultTree (entries_of c.args.context.now.draft.now)) c.as_slice-container.ensures)
    c.in_ok-formula.ensures
