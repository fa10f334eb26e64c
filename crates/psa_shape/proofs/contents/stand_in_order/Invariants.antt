use Rattle.std.proofs.Common.{◌≡◌, drop, map}
use Rattle.psa_elements.specs.ShapeFaults as definition
use Rattle.psa_shape.specs.TableRules.{seen_part}
use Rattle.psa_shape.specs.FoundFaults.{counted}
use Rattle.psa_shape.proofs.contents.stand_in_order.Given as goal

abbrev pub invariant-loop-part : goal.invariant-loop-part
invariant-loop-part l =
    definition.stand_in_order (map seen_part (drop l.part-index l.parts)) (counted l.rest) ≡ definition.stand_in_order
    (map seen_part l.parts) (counted l.children)
