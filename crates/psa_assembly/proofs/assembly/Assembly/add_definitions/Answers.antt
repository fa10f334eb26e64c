use Rattle.std.proofs.Common.{arith, map, ap, ◌∙◌}
use Rattle.psa_names.specs.Outlines.{entry_of, entries_of}
use Rattle.psa_assembly.specs.Assembling.{joined_lists, formulas_of}
use Rattle.psa_bodies.proofs.Numberable.{numberable, entry-in}
use Rattle.psa_assembly.proofs.CollectedFew.{collected-few}
use Rattle.psa_assembly.proofs.AssembledFirst.{next-assembled, more-assembled, promised-at, number-before, inside-before, all-assembled}
use Rattle.psa_assembly.proofs.assembly.Assembly.add_definitions.Goals as goal

pub loop-place-init : goal.loop-place-init
loop-place-init c = c.requires.none

pub bounds-before-place : goal.bounds-before-place
bounds-before-place c =
    inside-before c.args.context.now.draft.now c.args.before.now c.as_slice-definition-items.result.now c.loop-place.place c.requires.before c.as_slice-definition-items.ensures c.loop-place-test.true

pub add_definition-requires-clause-next : goal.add_definition-requires-clause-next
add_definition-requires-clause-next c =
    next-assembled (entries_of c.args.context.now.draft.now) c.loop-place.place (entry_of c.definition-item.result) c.loop-place.self c.loop-place.lists.items (numberable c.args.context.now.draft.now c.requires.draft c.requires.faultless)
    (entry-in c.args.context.now.draft.now.definitions c.as_slice-definition-items.result.now c.loop-place.place c.definition-item.result c.as_slice-definition-items.ensures c.loop-place-test.true c.definition-item.is)
    c.loop-place.invariant

pub add_definition-requires-clause-promised : goal.add_definition-requires-clause-promised
add_definition-requires-clause-promised c =
    promised-at c.args.context.now.draft.now c.as_slice-definition-items.result.now c.loop-place.place c.definition-item.result c.requires.draft c.requires.faultless c.as_slice-definition-items.ensures c.loop-place-test.true c.definition-item.is
    (entry-in c.args.context.now.draft.now.definitions c.as_slice-definition-items.result.now c.loop-place.place c.definition-item.result c.as_slice-definition-items.ensures c.loop-place-test.true c.definition-item.is)

pub add_definition-requires-clause-number : goal.add_definition-requires-clause-number
add_definition-requires-clause-number c =
    number-before c.args.context.now.draft.now c.args.before.now c.loop-place.place 0 (entry_of c.definition-item.result) c.requires.before
    (entry-in c.args.context.now.draft.now.definitions c.as_slice-definition-items.result.now c.loop-place.place c.definition-item.result c.as_slice-definition-items.ensures c.loop-place-test.true c.definition-item.is)

pub add_definition-requires-clause-few : goal.add_definition-requires-clause-few
add_definition-requires-clause-few c =
    let there = entry-in c.args.context.now.draft.now.definitions c.as_slice-definition-items.result.now c.loop-place.place c.definition-item.result c.as_slice-definition-items.ensures c.loop-place-test.true c.definition-item.is in
    let number = number-before c.args.context.now.draft.now c.args.before.now c.loop-place.place 0 (entry_of c.definition-item.result) c.requires.before there in
    let few = collected-few c.args.context.now.draft.now c.loop-place.place (entry_of c.definition-item.result) c.requires.draft there in
    omega (arith, number, few)

pub loop-place-preserved : goal.loop-place-preserved
loop-place-preserved c =
    more-assembled (entries_of c.args.context.now.draft.now) c.loop-place.place (entry_of c.definition-item.result) c.loop-place.self c.add_definition.new.self c.loop-place.lists.items c.push.new.self.items c.in_ok-formulas.formulas
    (entry-in c.args.context.now.draft.now.definitions c.as_slice-definition-items.result.now c.loop-place.place c.definition-item.result c.as_slice-definition-items.ensures c.loop-place-test.true c.definition-item.is)
    c.loop-place.invariant c.in_ok-formulas.ensures.added c.in_ok-formulas.ensures.formulas c.in_ok-push.ensures.items

pub returns : goal.returns
returns c =
    let entries = entries_of c.args.context.now.draft.now in
    let all = all-assembled c.args.context.now.draft.now c.as_slice-definition-items.result.now c.loop-place.place c.as_slice-definition-items.ensures c.loop-place-test.false in
    record {
      model = c.loop-place.invariant.model ∙ ap (joined_lists entries) all;
      lists = c.loop-place.invariant.lists_are ∙ ap (map (formulas_of entries)) all;
    }
