use Rattle.std.proofs.Common.{sym, subst, arith}
use Rattle.std.proofs.lemmas.Option.{slice_get-get_or}
use Rattle.psa_names.specs.Outlines.{entries_of}
use Rattle.psa_names.specs.Collected.{by_contents}
use Rattle.psa_names.proofs.ContentsOrder.{entries-ascend}
use Rattle.psa_bodies.specs.declared.contents.Block.{Block}
use Rattle.psa_bodies.specs.Contents.{AreBlocksOf}
use Rattle.psa_bodies.proofs.CountedBefore.{place-within, sum-few, counted-more, counted-all}
use Rattle.psa_bodies.proofs.contents.order_contents.Goals as goal

abbrev no_block : Block
no_block = record { file = 0; tag = 0; place = 0; formulas = 0 }

pub set-requires : goal.set-requires
set-requires c =
    let entries = entries_of c.args.draft.now in
    let are = subst (λ bs. AreBlocksOf entries (by_contents entries) bs) (sym c.as_slice-block-items.ensures.value) c.in_ok-blocks.ensures in
    let there = slice_get-get_or c.as_slice-block-items.result.now c.loop-block.block-index no_block c.loop-block-test.true in
    let inside = place-within entries c.as_slice-block-items.result.now are c.loop-block.block-index _ there in
    let long = c.loop-block.invariant.long in
    omega (arith, inside, long)

pub overflow_add-collected : goal.overflow_add-collected
overflow_add-collected c =
    let entries = entries_of c.args.draft.now in
    let are = subst (λ bs. AreBlocksOf entries (by_contents entries) bs) (sym c.as_slice-block-items.ensures.value) c.in_ok-blocks.ensures in
    let there = slice_get-get_or c.as_slice-block-items.result.now c.loop-block.block-index no_block c.loop-block-test.true in
    let few = sum-few c.args.draft.now c.requires c.as_slice-block-items.result.now are c.loop-block.block-index _ there in
    let own = c.loop-block.invariant.collected_is in
    omega (arith, few, own)

pub loop-block-preserved : goal.loop-block-preserved
loop-block-preserved c =
    let entries = entries_of c.args.draft.now in
    let are = subst (λ bs. AreBlocksOf entries (by_contents entries) bs) (sym c.as_slice-block-items.ensures.value) c.in_ok-blocks.ensures in
    let there = slice_get-get_or c.as_slice-block-items.result.now c.loop-block.block-index no_block c.loop-block-test.true in
    counted-more entries (entries-ascend c.args.draft.now c.requires) c.as_slice-block-items.result.now are c.loop-block.block-index c.loop-block.collected _ c.loop-block.before c.set.new.self c.loop-block.sequence c.push.new.self
    there c.loop-block.invariant c.set.ensures c.in_ok-push.ensures.ok

pub returns : goal.returns
returns c =
    let entries = entries_of c.args.draft.now in
    let are = subst (λ bs. AreBlocksOf entries (by_contents entries) bs) (sym c.as_slice-block-items.ensures.value) c.in_ok-blocks.ensures in
    counted-all c.args.draft.now c.requires c.as_slice-block-items.result.now are c.loop-block.block-index c.loop-block.collected c.loop-block.before c.loop-block.sequence c.loop-block-test.false c.loop-block.invariant
