use Rattle.std.proofs.Common.{◌≡◌, ◌++◌, take}
use Rattle.psa_lookup.specs.Asking.{asked_references, member_references}
use Rattle.psa_lookup.proofs.asked.push_members.Given as goal

abbrev pub invariant-loop-member : goal.invariant-loop-member
invariant-loop-member l =
    asked_references l.asked.items ≡ asked_references l.fn.asked.items ++ member_references (take l.member-index l.members)
