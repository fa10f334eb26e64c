use Rattle.std.proofs.Common.{ℕ, arith, subst}
use Rattle.psa_bdd.specs.Combined.{IsSplit}
use Rattle.psa_bdd.proofs.SidesLemmas.{split-own, split-same}
use Rattle.psa_bdd.proofs.sides.sides_at.Goals as goal

pub returns-then-node-var : goal.returns-then-node-var
returns-then-node-var c = λ ns fit there kind.
    let n = c.args.node in
    subst (λ (v : ℕ). IsSplit ns v c.args.id.0 n.hi.0 n.lo.0) c.if-node-var.true (split-own ns c.args.id.0 n fit there kind)

pub returns-else-node-var : goal.returns-else-node-var
returns-else-node-var c = λ ns fit there kind.
    split-same ns c.args.id.0 c.args.var c.args.node there kind (omega (arith, c.requires, c.if-node-var.false))
