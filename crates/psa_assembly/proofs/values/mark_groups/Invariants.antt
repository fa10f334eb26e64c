use Rattle.std.proofs.Common.{◌≡◌, ℕ, false, get_or, take}
use Rattle.std.specs.List.{list_any}
use Rattle.psa_assembly.specs.Values.{has_member}
use Rattle.psa_assembly.proofs.values.mark_groups.Given as goal

abbrev pub invariant-loop-group : goal.invariant-loop-group
invariant-loop-group l = (id : ℕ) → get_or l.marks id false ≡ list_any (has_member id) (take l.group-index l.groups)
