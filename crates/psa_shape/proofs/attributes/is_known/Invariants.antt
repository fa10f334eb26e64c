use Rattle.std.proofs.Common.{◌≡◌, drop, map}
use Rattle.std.specs.List.{list_any}
use Rattle.std.specs.Str.{bytes_eq}
use Rattle.psa_shape.specs.TableRules.{seen_attribute}
use Rattle.psa_shape.proofs.attributes.is_known.Given as goal

abbrev pub invariant-loop-rule : goal.invariant-loop-rule
invariant-loop-rule l =
    list_any (λ rule. bytes_eq rule.name l.name) (map seen_attribute (drop l.rule-index l.rules))
    ≡ list_any (λ rule. bytes_eq rule.name l.name) (map seen_attribute l.rules)
