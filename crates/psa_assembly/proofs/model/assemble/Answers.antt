use Rattle.std.proofs.Common.{ap, ◌∙◌, map}
use Rattle.psa_names.specs.Outlines.{entries_of}
use Rattle.psa_assembly.proofs.SequenceApart.{sequence-apart}
use Rattle.psa_assembly.proofs.WholeModel.{formulas-made, order-made, model-made}
use Rattle.psa_assembly.proofs.model.assemble.Goals as goal

pub add_definitions-requires-clause-before : goal.add_definitions-requires-clause-before
add_definitions-requires-clause-before c = c.as_slice-before.ensures ∙ c.requires.contents.before

pub join_in_order-requires : goal.join_in_order-requires
join_in_order-requires c = record {
  apart = sequence-apart c.args.context.now.draft.now c.as_slice.result.now c.requires.draft
      (ap (map _) c.as_slice.ensures ∙ c.requires.contents.sequence);
}

pub returns : goal.returns
returns c =
    let entries = entries_of c.args.context.now.draft.now in
    let model = c.in_ok-add_definitions.ensures.model in
    let lists = c.in_ok-add_definitions.ensures.lists in
    c.complete.ensures
    ∙ model-made entries c.add_definitions.new.self.model c.in_ok-formulas.formulas c.in_ok-order.order model
    (formulas-made entries c.add_definitions.new.lists.items c.as_slice.result.now c.in_ok-formulas.formulas lists
    (ap (map _) c.as_slice.ensures ∙ c.requires.contents.sequence) c.in_ok-formulas.ensures)
    (order-made entries c.args.context.now.numbers.now c.as_slice-2.result.now c.in_ok-order.order
    c.requires.context.numbers (c.as_slice-2.ensures ∙ ap (λ m. m.groups) model) c.in_ok-order.ensures)
