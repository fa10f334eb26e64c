use Rattle.std.proofs.Common.{arith}
use Rattle.psa_products.proofs.BoundLemmas.{partial-fewer}
use Rattle.psa_products.proofs.partial.PartialBounds.keep.Goals as goal

pub returns-clause-partial : goal.returns-clause-partial
returns-clause-partial c = λ values ranks partial.
    partial-fewer values ranks c.args.self.now partial c.common_length-self.result (omega (arith, c.common_length-self.ensures.left, c.split_at.ensures.front_len))
