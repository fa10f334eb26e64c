use Rattle.std.proofs.Common.{◌≡◌, drop, find, map}
use Rattle.std.specs.List.{flat_map}
use Rattle.psa_elements.specs.ElementTable.{has_tag}
use Rattle.psa_shape.specs.TableRules.{seen_part}
use Rattle.psa_shape.proofs.table.row_in_parts.Given as goal

abbrev pub invariant-loop-part : goal.invariant-loop-part
invariant-loop-part l =
    find (has_tag l.tag) (flat_map (λ part. part.rows) (map seen_part (drop l.part-index l.parts)))
    ≡ find (has_tag l.tag) (flat_map (λ part. part.rows) (map seen_part l.parts))
