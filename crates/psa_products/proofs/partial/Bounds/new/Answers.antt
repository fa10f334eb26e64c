use Rattle.psa_products.proofs.BoundLemmas.{partial-new}
use Rattle.psa_products.proofs.partial.Bounds.new.Goals as goal

pub invariant_of-result : goal.invariant_of-result
invariant_of-result c = partial-new c.args.values.now c.args.ranks.now c.new.result c.new.ensures
