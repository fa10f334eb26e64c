use Rattle.std.proofs.Common.{rules, sym, ap, ◌∙◌, length, arith}
use Rattle.std.specs.List.{flat_map}
use Rattle.psa_model.specs.declared.draft.DraftInstruction.TheViews as views
use Rattle.std.proofs.lemmas.List.Folds.{length-flat_map-take}
use Rattle.psa_names.specs.Collected.{collected_by}
use Rattle.psa_bodies.proofs.CollectedNumbers.{block-number, if-number, part-number}
use Rattle.psa_bodies.proofs.counting.+instruction.Goals as goal

pub count_instruction-count_instructions-requires : goal.count_instruction-count_instructions-requires
count_instruction-count_instructions-requires t c =
    let few = c.requires.few in
    let same = block-number c.args.instruction.now c.in-Block.inside c.in-Block.is in
    let own = ap (λ xs. length (flat_map collected_by xs)) c.as_slice.ensures in
    (search (rules, views.the_lemmas), omega (arith, few, same, own))

pub count_instruction-count_instructions-requires-in-If : goal.count_instruction-count_instructions-requires-in-If
count_instruction-count_instructions-requires-in-If t c =
    let few = c.requires.few in
    let same = if-number c.args.instruction.now c.in-If.field-0 c.in-If.first c.in-If.second c.in-If.is in
    let own = ap (λ xs. length (flat_map collected_by xs)) c.as_slice-in-If.ensures in
    (search (rules, views.the_lemmas), omega (arith, few, same, own))

pub count_instruction-count_instructions-requires-in-If-2 : goal.count_instruction-count_instructions-requires-in-If-2
count_instruction-count_instructions-requires-in-If-2 t c =
    let few = c.requires.few in
    let same = if-number c.args.instruction.now c.in-If.field-0 c.in-If.first c.in-If.second c.in-If.is in
    let own = ap (λ xs. length (flat_map collected_by xs)) c.as_slice-in-If-2.ensures in
    (search (rules, views.the_lemmas), omega (arith, few, same, own))

pub count_instruction-overflow_add-result : goal.count_instruction-overflow_add-result
count_instruction-overflow_add-result t c =
    let few = c.requires.few in
    let same = if-number c.args.instruction.now c.in-If.field-0 c.in-If.first c.in-If.second c.in-If.is in
    let first = c.count_instructions-in-If.ensures ∙ ap (λ xs. length (flat_map collected_by xs)) c.as_slice-in-If.ensures in
    let second = c.count_instructions-in-If-2.ensures ∙ ap (λ xs. length (flat_map collected_by xs)) c.as_slice-in-If-2.ensures in
    omega (arith, few, same, first, second)

pub count_instruction-returns-in-Block : goal.count_instruction-returns-in-Block
count_instruction-returns-in-Block t c =
    c.count_instructions.ensures ∙ ap (λ xs. length (flat_map collected_by xs)) c.as_slice.ensures
    ∙ sym (block-number c.args.instruction.now c.in-Block.inside c.in-Block.is)

pub count_instruction-returns-in-If : goal.count_instruction-returns-in-If
count_instruction-returns-in-If t c =
    let same = if-number c.args.instruction.now c.in-If.field-0 c.in-If.first c.in-If.second c.in-If.is in
    let first = c.count_instructions-in-If.ensures ∙ ap (λ xs. length (flat_map collected_by xs)) c.as_slice-in-If.ensures in
    let second = c.count_instructions-in-If-2.ensures ∙ ap (λ xs. length (flat_map collected_by xs)) c.as_slice-in-If-2.ensures in
    omega (arith, same, first, second)

pub count_instructions-count_instruction-count-requires : goal.count_instructions-count_instruction-count-requires
count_instructions-count_instruction-count-requires t c =
    let few = c.requires.few in
    let part = part-number collected_by c.args.instructions.now c.loop-instruction.instruction-index c.instruction-item.result c.loop-instruction-test.true c.instruction-item.is in
    (search (rules, views.the_lemmas), omega (arith, few, part))

pub count_instructions-overflow_add-count : goal.count_instructions-overflow_add-count
count_instructions-overflow_add-count t c =
    let few = c.requires.few in
    let before = c.loop-instruction.invariant in
    let own = c.count_instruction-count.ensures in
    let less = length-flat_map-take collected_by c.args.instructions.now c.loop-instruction.instruction-index c.instruction-item.result c.loop-instruction-test.true in
    let same = ap (λ i. length (collected_by i)) c.instruction-item.is in
    omega (arith, few, before, own, less, same)
