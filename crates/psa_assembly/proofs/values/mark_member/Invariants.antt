use Rattle.std.proofs.Common.{◌≡◌, ◌+◌, ◌-◌, ℕ, false, get_or, length}
use Rattle.psa_assembly.proofs.values.mark_member.Given as goal

abbrev pub invariant-loop-marks : goal.invariant-loop-marks
invariant-loop-marks l = (id : ℕ) → get_or l.marks id false ≡ get_or l.initial.marks id false

abbrev pub decreases-loop-marks : goal.decreases-loop-marks
decreases-loop-marks l = l.place + 1 - length l.marks
