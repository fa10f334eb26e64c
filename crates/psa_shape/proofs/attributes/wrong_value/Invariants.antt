use Rattle.std.proofs.Common.{◌≡◌, drop, map}
use Rattle.std.specs.List.{filter_map}
use Rattle.psa_elements.specs.ShapeFaults as definition
use Rattle.psa_shape.specs.TableRules.{seen_attribute}
use Rattle.psa_shape.proofs.attributes.wrong_value.Given as goal

abbrev pub invariant-loop-rule : goal.invariant-loop-rule
invariant-loop-rule l =
    filter_map (definition.wrong_value l.tag l.given) (map seen_attribute (drop l.rule-index l.rules))
    ≡ filter_map (definition.wrong_value l.tag l.given) (map seen_attribute l.rules)
