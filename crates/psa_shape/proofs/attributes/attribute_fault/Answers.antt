use Rattle.std.proofs.Common.{Some, map, sym, ap, ◌∙◌}
use Rattle.std.specs.List.{filter_map}
use Rattle.psa_elements.specs.ShapeFaults as definition
use Rattle.psa_shape.specs.TableRules.{seen_attribute}
use Rattle.psa_shape.proofs.AttributeLemmas.{first-missing, first-wrong}
use Rattle.psa_shape.proofs.attributes.attribute_fault.Goals as goal

pub returns-in-Some-missing : goal.returns-in-Some-missing
returns-in-Some-missing c =
    ap Some c.bad_attribute-in-Some-missing.ensures
    ∙ sym (first-missing _ _ (filter_map (definition.wrong_value c.args.tag.now c.args.given.now)
    (map seen_attribute c.args.rules.now)) c.in-Some-missing.name.now (sym c.in_default.ensures)
    (sym c.in-Some-missing.ensures))

pub returns : goal.returns
returns c = c.wrong_value.ensures ∙ sym (first-wrong _ _ _ (sym c.in_default.ensures)
    (sym c.in_default-missing.ensures))
