use Rattle.std.proofs.Common.{length}
use Rattle.psa_prep.specs.Counting.{MakesRow}
use Rattle.psa_prep.proofs.counting.next_row.Given as goal

abbrev pub invariant-loop-count : goal.invariant-loop-count
invariant-loop-count l = MakesRow l.context l.operands l.signs (length l.row) l.place l.count l.fn.builder l.builder l.next.items
