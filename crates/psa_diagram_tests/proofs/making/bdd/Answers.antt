use Rattle.std.proofs.Common.{arith}
use Rattle.psa_nodes.proofs.CallerLemmas.{bounded-made}
use Rattle.psa_diagram_tests.proofs.making.bdd.Goals as goal

pub returns : goal.returns
returns g c = bounded-made _ c.args.table.now c.bdd_node.new.self c.bdd_node.result c.bdd_node.ensures.made (omega arith) c.requires
