use Rattle.psa_nodes.specs.declared.node.Kind.TheVariants.{Zbdd}
use Rattle.psa_nodes.proofs.CallerLemmas.{inner-from, some-inner}
use Rattle.psa_families.proofs.sides.read.Goals as goal

pub node-requires : goal.node-requires
node-requires g c = some-inner Zbdd 0 c.args.table.now.nodes c.args.id.0 c.requires (inner-from c.args.id.0 c.is_terminal.result c.is_terminal.ensures c.if-is_terminal.false)
