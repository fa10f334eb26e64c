use Rattle.std.proofs.Common.{◌++◌, ◌∷◌, [], take, drop, refl, arith, subst, ap, ◌∙◌, get_or}
use Rattle.std.specs.List.{range_with_len}
use Rattle.psa_names.specs.Outlines.{entry_of, entries_of}
use Rattle.psa_names.specs.Ids.{kind_number}
use Rattle.psa_bodies.specs.Counts.{Counted, group_senses}
use Rattle.psa_bodies.proofs.NumberingInOrder.{count-few, counted-by-one, numbered-more}
use Rattle.psa_bodies.proofs.Numberable.{numberable, entry-in}
use Rattle.psa_bodies.proofs.numbering.number_definitions.Goals as goal

pub number_definition-numbered-requires-clause-few : goal.number_definition-numbered-requires-clause-few
number_definition-numbered-requires-clause-few c =
    let few = count-few (entries_of c.args.draft.now) (kind_number c.definition-item.result.kind) c.loop-definition.definition-index (entry_of c.definition-item.result) (numberable c.args.draft.now c.requires.draft c.requires.faultless)
    (entry-in c.args.draft.now.definitions c.as_slice-definition-items.result.now c.loop-definition.definition-index c.definition-item.result c.as_slice-definition-items.ensures c.loop-definition-test.true c.definition-item.is) in
    let counted = c.loop-definition.invariant.counted (kind_number c.definition-item.result.kind) in
    omega (arith, few, counted)

pub number_members-requires-clause-few : goal.number_members-requires-clause-few
number_members-requires-clause-few c =
    let few = count-few (entries_of c.args.draft.now) 2 c.loop-definition.definition-index (entry_of c.definition-item.result) (numberable c.args.draft.now c.requires.draft c.requires.faultless)
    (entry-in c.args.draft.now.definitions c.as_slice-definition-items.result.now c.loop-definition.definition-index c.definition-item.result c.as_slice-definition-items.ensures c.loop-definition-test.true c.definition-item.is) in
    let counted = c.loop-definition.invariant.counted 2 in
    let more = counted-by-one (kind_number c.definition-item.result.kind) 2 c.loop-definition.counts c.number_definition-numbered.new.counts c.number_definition-numbered.ensures.counted in
    let members = c.member_count-count.ensures in
    omega (arith, few, counted, more, members)

pub loop-definition-preserved : goal.loop-definition-preserved
loop-definition-preserved c =
    let n = c.member_count-count.ensures in
    numbered-more (entries_of c.args.draft.now) c.loop-definition.definition-index (entry_of c.definition-item.result) c.loop-definition.counts c.number_definition-numbered.new.counts c.number_members.new.counts c.loop-definition.definitions c.push.new.self c.loop-definition.of_groups c.number_members.new.of_groups c.loop-definition.members c.number_members.new.members
    (get_or c.loop-definition.counts (kind_number c.definition-item.result.kind) 0)
    (numberable c.args.draft.now c.requires.draft c.requires.faultless)
    (entry-in c.args.draft.now.definitions c.as_slice-definition-items.result.now c.loop-definition.definition-index c.definition-item.result c.as_slice-definition-items.ensures c.loop-definition-test.true c.definition-item.is)
    c.loop-definition.invariant c.number_definition-numbered.ensures.counted
    (subst (λ m. Counted 2 (group_senses (take m c.loop-definition.members)) c.number_definition-numbered.new.counts c.number_members.new.counts) n c.in_ok-number_members.ensures.counted)
    refl
    (c.in_ok-push.ensures.ok ∙ ap (λ d. c.loop-definition.definitions ++ d ∷ []) c.number_definition-numbered.ensures.number)
    (c.in_ok-number_members.ensures.numbers ∙ ap (λ m. c.loop-definition.of_groups ++ range_with_len (get_or c.number_definition-numbered.new.counts 2 0) (group_senses (take m c.loop-definition.members))) n)
    (c.in_ok-number_members.ensures.rest ∙ ap (λ m. drop m c.loop-definition.members) n)
