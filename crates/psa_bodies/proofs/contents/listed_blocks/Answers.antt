use Rattle.std.proofs.Common.{◌++◌, ◌∷◌, [], ap, ◌∙◌, length, arith}
use Rattle.std.proofs.lemmas.List.{length-map}
use Rattle.psa_names.specs.Outlines.{entry_of, entries_of}
use Rattle.psa_bodies.proofs.Numberable.{entry-in}
use Rattle.psa_bodies.proofs.CountedBefore.{blocks-more, blocks-all, one-few}
use Rattle.psa_bodies.proofs.contents.listed_blocks.Goals as goal

pub make_block-requires-clause-few : goal.make_block-requires-clause-few
make_block-requires-clause-few c =
    one-few c.args.draft.now c.requires c.loop-place.place (entry_of c.definition-item.result)
    (entry-in c.args.draft.now.definitions c.as_slice-definition-items.result.now c.loop-place.place c.definition-item.result c.as_slice-definition-items.ensures c.loop-place-test.true c.definition-item.is)

pub loop-place-preserved : goal.loop-place-preserved
loop-place-preserved c =
    blocks-more (entries_of c.args.draft.now) c.loop-place.place (entry_of c.definition-item.result) c.loop-place.blocks.items c.push.new.self.items
    (entry-in c.args.draft.now.definitions c.as_slice-definition-items.result.now c.loop-place.place c.definition-item.result c.as_slice-definition-items.ensures c.loop-place-test.true c.definition-item.is)
    c.loop-place.invariant (c.in_ok-push.ensures.items ∙ ap (λ b. c.loop-place.blocks.items ++ b ∷ []) c.make_block.ensures)

pub returns : goal.returns
returns c =
    let same = length-map c.args.draft.now.definitions entry_of in
    let own = ap length c.as_slice-definition-items.ensures in
    let end = c.loop-place-test.false in
    blocks-all (entries_of c.args.draft.now) c.loop-place.place c.loop-place.blocks.items (omega (arith, same, own, end)) c.loop-place.invariant
