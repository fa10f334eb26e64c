use Rattle.std.proofs.Common.{◌+◌, ◌≤◌, ℕ, arith, subst}
use Rattle.psa_nodes.specs.declared.node.Kind.TheVariants.{Zbdd}
use Rattle.psa_nodes.proofs.CallerLemmas.{stands-terminal, stands-at, stands-node, stands-weaker}
use Rattle.psa_families.specs.Sides.{IsSplit}
use Rattle.psa_families.proofs.SidesLemmas.{split-own, split-later}
use Rattle.psa_families.proofs.sides.sides_at.Goals as goal

pub returns-in_default : goal.returns-in_default
returns-in_default c = λ ns fit st there.
    split-later ns c.args.id.0 c.args.var fit (stands-terminal Zbdd (c.args.var + 1) ns c.args.id.0 (rw c.in_default.is at c.requires.terminal))

pub returns-then-node-var : goal.returns-then-node-var
returns-then-node-var c = λ ns fit st there.
    let n = c.in-Some.node in
    let place = rw c.in-Some.is at there in
    subst (λ (v : ℕ). IsSplit ns v c.args.id.0 n.hi.0 n.lo.0) c.if-node-var.true (split-own ns c.args.id.0 n fit place (stands-at Zbdd 0 ns c.args.id.0 n st place).0)

pub returns-else-node-var : goal.returns-else-node-var
returns-else-node-var c = λ ns fit st there.
    let n = c.in-Some.node in
    let place = rw c.in-Some.is at there in
    let before : c.args.var ≤ n.var = rw c.in-Some.is at c.requires.before in
    split-later ns c.args.id.0 c.args.var fit
    (rw (stands-at Zbdd 0 ns c.args.id.0 n st place).0 at (stands-weaker n.kind n.var (c.args.var + 1) ns c.args.id.0 (omega (arith, before, c.if-node-var.false)) (stands-node ns c.args.id.0 n place)))
