use Rattle.std.proofs.Common.{◌≡◌, drop, map}
use Rattle.psa_elements.specs.ShapeFaults.{missing}
use Rattle.psa_shape.specs.TableRules.{seen_attribute}
use Rattle.psa_shape.proofs.attributes.missing.Given as goal

abbrev pub invariant-loop-rule : goal.invariant-loop-rule
invariant-loop-rule l = missing (map seen_attribute (drop l.rule-index l.rules)) l.given ≡ missing
    (map seen_attribute l.rules) l.given
