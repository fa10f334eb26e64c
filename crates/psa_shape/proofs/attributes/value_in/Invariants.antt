use Rattle.std.proofs.Common.{◌≡◌, drop, find}
use Rattle.psa_elements.specs.ShapeFaults.{has_name}
use Rattle.psa_shape.proofs.attributes.value_in.Given as goal

abbrev pub invariant-loop-one : goal.invariant-loop-one
invariant-loop-one l = find (has_name l.name) (drop l.one-index l.given) ≡ find (has_name l.name) l.given
