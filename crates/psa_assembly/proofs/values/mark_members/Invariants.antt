use Rattle.std.proofs.Common.{◌≡◌, ◌||◌, ℕ, false, get_or, take}
use Rattle.psa_assembly.specs.Values.{is_among}
use Rattle.psa_assembly.proofs.values.mark_members.Given as goal

abbrev pub invariant-loop-member : goal.invariant-loop-member
invariant-loop-member l =
    (id : ℕ) → get_or l.marks id false ≡ (get_or l.initial.marks id false || is_among id (take l.member-index l.members))
