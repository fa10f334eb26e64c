use Rattle.std.proofs.Common.{◌≡◌, length}
use Rattle.std.specs.List.{list_all}
use Rattle.psa_model.specs.PathNames.{name_parts}
use Rattle.psa_elements.specs.ElementTable.{is_name}
use Rattle.psa_shape.proofs.values.is_reference.Given as goal

abbrev pub invariant-loop-place : goal.invariant-loop-place
invariant-loop-place l = list_all is_name (name_parts l.rest) ≡ list_all is_name (name_parts l.text)

abbrev pub decreases-loop-place : goal.decreases-loop-place
decreases-loop-place l = length l.rest
