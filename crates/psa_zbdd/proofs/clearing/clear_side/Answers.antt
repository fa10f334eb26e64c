use Rattle.std.proofs.Common.{◌≡◌, ◌≤◌, ◌+◌, ◌%◌, arith}
use Rattle.psa_nodes.specs.declared.node.Kind.TheVariants.{Zbdd}
use Rattle.psa_nodes.proofs.CallerLemmas.{inner-from, some-inner, stands-at, stands-node, stands-weaker}
use Rattle.psa_zbdd.proofs.TerminalProductLemmas.{clear-negative, clear-terminal, clear-low, clear-past}
use Rattle.psa_zbdd.proofs.clearing.clear_side.Goals as goal

pub returns-then-var-eq1-clause-clear : goal.returns-then-var-eq1-clause-clear
returns-then-var-eq1-clause-clear g c = clear-negative c.args.table.now.nodes c.args.var c.args.id.0 c.requires c.if-var-eq1.true

pub returns-then-is_terminal-clause-clear : goal.returns-then-is_terminal-clause-clear
returns-then-is_terminal-clause-clear g c = clear-terminal c.args.table.now.nodes c.check.ensures.fit c.args.var c.args.id.0 (c.is_terminal.ensures.0 c.if-is_terminal.true)

pub node-node-requires : goal.node-node-requires
node-node-requires g c = some-inner Zbdd (c.args.var + 1) c.args.table.now.nodes c.args.id.0 c.requires (inner-from c.args.id.0 c.is_terminal.result c.is_terminal.ensures c.if-is_terminal.false)

pub returns-then-node-var-clause-clear : goal.returns-then-node-var-clause-clear
returns-then-node-var-clause-clear g c =
    let odd = c.if-var-eq1.false in
    let even : c.args.var % 2 ≡ 0 = omega (arith, odd) in
    clear-low c.args.table.now.nodes c.check.ensures.fit c.args.var c.args.id.0 c.node-node.result c.node-node.ensures.node c.requires c.if-node-var.true even

pub returns-else-node-var-clause-clear : goal.returns-else-node-var-clause-clear
returns-else-node-var-clause-clear g c =
    let ns = c.args.table.now.nodes in
    let n = c.node-node.result in
    let p = stands-at Zbdd (c.args.var + 1) ns c.args.id.0 n c.requires c.node-node.ensures.node in
    let from : c.args.var + 1 ≤ n.var = p.1 in
    let other = c.if-node-var.false in
    clear-past ns c.check.ensures.fit c.args.var c.args.id.0
    (rw p.0 at (stands-weaker n.kind n.var (c.args.var + 1 + 1) ns c.args.id.0 (omega (arith, from, other)) (stands-node ns c.args.id.0 n c.node-node.ensures.node)))
