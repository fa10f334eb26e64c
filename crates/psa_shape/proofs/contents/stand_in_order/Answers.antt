use Rattle.std.proofs.Common.{List, map, sym, ◌∙◌}
use Rattle.std.proofs.lemmas.List.{at_drop_all}
use Rattle.psa_elements.specs.ShapeFaults as definition
use Rattle.psa_shape.specs.declared.rules.Part.{Part}
use Rattle.psa_shape.specs.TableRules.{seen_part}
use Rattle.psa_shape.specs.FoundFaults.{counted}
use Rattle.psa_shape.proofs.ContentLemmas.{stand_in_order-labels}
use Rattle.psa_shape.proofs.contents.stand_in_order.Goals as goal

pub returns : goal.returns
returns c =
    c.are_labels.ensures ∙ sym (stand_in_order-labels c.loop-part.rest.now)
    ∙ sym (at_drop_all (λ (ps : List Part). definition.stand_in_order (map seen_part ps)
    (counted c.loop-part.rest.now)) c.args.parts.now c.loop-part.part-index c.loop-part-test.false)
    ∙ c.loop-part.invariant
