use Rattle.std.proofs.Common.{◌-◌, arith}
use Rattle.psa_products.proofs.BoundLemmas.{partial-last}
use Rattle.psa_products.proofs.partial.PartialBounds.last.Goals as goal

pub returns-clause-exact : goal.returns-clause-exact
returns-clause-exact c =
    partial-last c.args.values.now c.args.ranks.now c.args.self.now c.requires (c.args.self.now.count - 1) (omega (arith, c.if-self-eq0.false)) c.index-self-self.result
