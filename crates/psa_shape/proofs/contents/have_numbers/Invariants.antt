use Rattle.std.proofs.Common.{◌≡◌, drop, map}
use Rattle.std.specs.List.{list_all}
use Rattle.psa_elements.specs.ShapeFaults.{has_number}
use Rattle.psa_shape.specs.TableRules.{seen_part}
use Rattle.psa_shape.specs.FoundFaults.{counted}
use Rattle.psa_shape.proofs.contents.have_numbers.Given as goal

abbrev pub invariant-loop-part : goal.invariant-loop-part
invariant-loop-part l =
    list_all (has_number (counted l.children)) (map seen_part (drop l.part-index l.parts)) ≡ list_all
    (has_number (counted l.children)) (map seen_part l.parts)
