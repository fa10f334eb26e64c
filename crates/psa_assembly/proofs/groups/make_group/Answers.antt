use Rattle.std.proofs.Common.{List, subst, sym, ◌∙◌}
use Rattle.psa_model.specs.declared.model.Factor.{Factor}
use Rattle.psa_names.specs.ModelOfDraft.{group_of}
use Rattle.psa_bodies.specs.Made.{IsMade}
use Rattle.psa_assembly.proofs.GroupForms.{group-made, group_with}
use Rattle.psa_assembly.proofs.groups.make_group.Goals as goal

pub returns : goal.returns
returns c =
    subst (λ (fs : List Factor). IsMade c.args.context.now.draft.now c.args.definition.now c.args.cursor.now c.resolve_factors.new.cursor (λ entries from. group_of entries from) (group_with c.args.definition.now.place c.in_ok-name.name c.args.group.now.model c.args.members c.in_ok-distribution.distribution fs)) (sym c.from_vec.ensures)
    (group-made c.args.context.now.numbers.now c.args.context.now.draft.now c.args.definition.now c.args.cursor.now c.skip_paths.new.cursor c.resolve_expression.new.cursor c.resolve_factors.new.cursor c.args.group.now c.as_slice.result.now c.as_slice-factors.result.now c.args.members c.in_ok-name.name c.len-count.result c.in_ok-distribution.distribution c.in_ok-factors.factors.items
    c.requires.context.numbers c.requires.kind c.requires.body c.as_slice.ensures c.as_slice-factors.ensures (c.in_ok-name.ensures ∙ c.as_str.ensures) c.len-count.ensures c.requires.members c.skip_paths.ensures c.in_ok-distribution.ensures c.in_ok-factors.ensures)
