use Rattle.psa_prep.proofs.NodeLemmas.{node_eq, node-exact}
use Rattle.psa_prep.proofs.PlaceLemmas.{added}
use Rattle.psa_prep.proofs.builder.add.Goals as goal

pub returns : goal.returns
returns c =
    let s = c.in_ok-index.ensures.stored in
    added node_eq node-exact c.args.nodes.now.keys c.insert_full.new.self.keys c.args.node s.0 c.in_ok-index.index c.in_ok-index.ensures.keys s.1 s.2
