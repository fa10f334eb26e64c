use Rattle.std.proofs.Common.{◌≡◌, drop}
use Rattle.psa_elements.specs.ShapeFaults as definition
use Rattle.psa_shape.specs.TableRules.{seen_part}
use Rattle.psa_shape.specs.FoundFaults.{counted}
use Rattle.psa_shape.proofs.contents.behind_part.Given as goal

abbrev pub invariant-loop-place : goal.invariant-loop-place
invariant-loop-place l =
    definition.behind_part (seen_part l.part) (counted (drop l.place l.children)) ≡ definition.behind_part
    (seen_part l.part) (counted l.children)
