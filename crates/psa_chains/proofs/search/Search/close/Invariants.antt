use Rattle.std.proofs.Common.{◌≡◌, ◌≤◌, ◌++◌, length, take, drop, reverse}
use Rattle.psa_chains.specs.declared.search.Mark.TheVariants.{Closed}
use Rattle.psa_chains.specs.Searching.{marked}
use Rattle.psa_chains.proofs.search.Search.close.Given as goal

abbrev pub invariant-loop-block : goal.invariant-loop-block
invariant-loop-block l = record {
  low : l.block.nodes ≤ length l.self.stack;
  fits : length l.self.stack ≤ length l.fn.self.stack;
  stack : l.self.stack ≡ take (length l.self.stack) l.fn.self.stack;
  marks : l.self.marks ≡ marked (Closed (length l.fn.self.order)) (drop (length l.self.stack) l.fn.self.stack) l.fn.self.marks;
  order : l.self.order ≡ l.fn.self.order ++ reverse (drop (length l.self.stack) l.fn.self.stack);
  waiting : l.self.waiting ≡ l.fn.self.waiting;
  blocks : l.self.blocks ≡ l.fn.self.blocks;
}

abbrev pub decreases-loop-block : goal.decreases-loop-block
decreases-loop-block l = length l.self.stack
