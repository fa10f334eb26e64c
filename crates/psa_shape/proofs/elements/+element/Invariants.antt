use Rattle.std.proofs.Common.{◌≡◌, drop, map}
use Rattle.std.specs.List.{flat_map}
use Rattle.psa_elements.specs.ShapeFaults.{element_faults}
use Rattle.psa_shape.specs.TableRules.{seen_rule}
use Rattle.psa_shape.specs.FoundFaults.{child_faults_by}
use Rattle.psa_shape.proofs.elements.+element.Given as goal

abbrev pub invariant-check_children-loop-child : goal.invariant-check_children-loop-child
invariant-check_children-loop-child l =
    flat_map (child_faults_by l.file (seen_rule l.rule)) (map (element_faults l.file) (drop l.child-index l.children))
    ≡ flat_map (child_faults_by l.file (seen_rule l.rule)) (map (element_faults l.file) l.children)
