use Rattle.std.proofs.Common.{subst, IsPermutation}
use Rattle.psa_names.specs.Outlines.{entries_of}
use Rattle.psa_names.proofs.ContentsOrder.{entries-ascend}
use Rattle.psa_bodies.proofs.SortedBlocks.{sorted-blocks}
use Rattle.psa_bodies.proofs.contents.sorted_blocks.Goals as goal

pub returns : goal.returns
returns c =
    sorted-blocks (entries_of c.args.draft.now) (entries-ascend c.args.draft.now c.requires) c.sort.new.self.items
    (subst (λ bs. IsPermutation bs c.sort.new.self.items) c.in_ok-blocks.ensures c.in_ok-sort.ensures.permutation)
    c.in_ok-sort.ensures.sorted
