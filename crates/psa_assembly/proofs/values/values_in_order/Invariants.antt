use Rattle.std.proofs.Common.{◌≡◌, take}
use Rattle.std.specs.List.{flat_map, list_any}
use Rattle.psa_assembly.specs.Values.{has_member, valued_by}
use Rattle.psa_assembly.proofs.values.values_in_order.Given as goal

abbrev pub invariant-loop-numbered : goal.invariant-loop-numbered
invariant-loop-numbered l =
    l.order ≡ flat_map (valued_by (λ id. list_any (has_member id) l.groups)) (take l.numbered-index l.numbered-items)
