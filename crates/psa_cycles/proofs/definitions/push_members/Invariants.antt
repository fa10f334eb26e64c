use Rattle.std.proofs.Common.{◌≡◌, take}
use Rattle.psa_names.specs.Outlines.{joined}
use Rattle.psa_cycles.specs.Levels.{members_of_paths, with_outlines}
use Rattle.psa_cycles.proofs.definitions.push_members.Given as goal

abbrev pub invariant-loop-member : goal.invariant-loop-member
invariant-loop-member l = l.levels ≡ with_outlines 0 (joined (members_of_paths (take l.member-index l.members))) l.fn.levels
