use Rattle.std.proofs.Common.{◌≡◌, [], drop, map, reverse, take}
use Rattle.psa_elements.specs.ShapeFaults.{unknown_or_repeated}
use Rattle.psa_shape.specs.TableRules.{seen_attribute}
use Rattle.psa_shape.proofs.attributes.unknown_or_repeated.Given as goal

abbrev pub invariant-loop-place : goal.invariant-loop-place
invariant-loop-place l =
    unknown_or_repeated (map seen_attribute l.rules) (reverse (take l.place l.given)) (drop l.place l.given)
    ≡ unknown_or_repeated (map seen_attribute l.rules) [] l.given
