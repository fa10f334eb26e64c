use Rattle.psa_nodes.proofs.CallerLemmas.{inner-from, some-inner}
use Rattle.psa_diagram_tests.proofs.making.node_of.Goals as goal

pub node-requires : goal.node-requires
node-requires g c =
    let a = c.args in
    some-inner a.kind 0 a.table.now.nodes a.id.0 c.expect_node.ensures (inner-from a.id.0 c.is_terminal.result c.is_terminal.ensures c.if-is_terminal.false)
