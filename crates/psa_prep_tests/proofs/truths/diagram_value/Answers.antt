use Rattle.std.proofs.Common.{refl, arith}
use Rattle.psa_nodes.proofs.CallerLemmas.{node_at-some}
use Rattle.psa_prep_tests.proofs.truths.diagram_value.Goals as goal

pub node-node-requires : goal.node-node-requires
node-node-requires g c =
    let r = node_at-some c.args.table.now.nodes c.loop-rank.id.0 (omega (arith, c.if-id-lt-TERMINALS.false)) (omega arith) in
    rw r.1 refl
