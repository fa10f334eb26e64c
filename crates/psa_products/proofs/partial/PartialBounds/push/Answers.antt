use Rattle.std.proofs.Common.{ap₂, ◌∙◌}
use Rattle.psa_number.specs.Operations.{unit_product_ends}
use Rattle.psa_products.proofs.BoundLemmas.{partial-push}
use Rattle.psa_products.proofs.partial.PartialBounds.push.Goals as goal

pub returns-clause-partial : goal.returns-clause-partial
returns-clause-partial c =
    partial-push c.args.values.now c.args.ranks.now c.args.self.now c.requires.partial c.requires.room c.args.literal c.times_in_unit-bound.result
    (c.times_in_unit-bound.ensures.exact ∙ ap₂ unit_product_ends c.last.ensures.exact c.literal_interval.ensures.exact) c.times_in_unit-bound.ensures.in_unit
