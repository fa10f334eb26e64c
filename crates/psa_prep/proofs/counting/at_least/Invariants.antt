use Rattle.std.proofs.Common.{suc}
use Rattle.psa_prep.specs.Counting.{MakesRow}
use Rattle.psa_prep.proofs.counting.at_least.Given as goal

abbrev pub invariant-loop-place : goal.invariant-loop-place
invariant-loop-place l = MakesRow l.context l.operands l.signs (suc l.bound) l.place (suc l.bound) l.fn.builder l.builder l.row.items
