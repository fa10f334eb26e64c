use Rattle.std.proofs.Common.{◌≡◌, drop}
use Rattle.std.specs.List.{find}
use Rattle.psa_elements.specs.ShapeFaults.{has_name}
use Rattle.psa_draft_parts.proofs.attributes.value_in.Given as goal

abbrev pub invariant-loop-attribute : goal.invariant-loop-attribute
invariant-loop-attribute l = find (has_name l.name) (drop l.attribute-index l.attributes) ≡ find (has_name l.name)
    l.attributes
