use Rattle.std.proofs.Common.{arith}
use Rattle.psa_nodes.proofs.CallerLemmas.{bounded-made}
use Rattle.psa_diagram_tests.proofs.making.zbdd.Goals as goal

pub returns : goal.returns
returns g c = bounded-made _ c.args.table.now c.zbdd_node.new.self c.zbdd_node.result c.zbdd_node.ensures.made (omega arith) c.requires
