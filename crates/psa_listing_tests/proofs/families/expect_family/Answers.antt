use Rattle.std.proofs.Common.{◌≡◌, refl, arith, rules, subst, true}
use Rattle.psa_nodes.specs.declared.node.Kind.TheVariants.{Zbdd}
use Rattle.psa_nodes.specs.Readings.{stands}
use Rattle.psa_nodes.proofs.CallerLemmas.{stands-terminal, stands-weaker, stands-node, node_at-some}
use Rattle.psa_listing_tests.proofs.families.expect_family.Goals as goal

pub returns-then-id-lt-TERMINALS : goal.returns-then-id-lt-TERMINALS
returns-then-id-lt-TERMINALS g c =
    stands-terminal Zbdd c.args.from c.args.table.now.nodes c.args.id.0 (omega (arith, c.if-id-lt-TERMINALS.true))

pub node-node-requires : goal.node-node-requires
node-node-requires g c =
    let r = node_at-some c.args.table.now.nodes c.args.id.0 (omega (arith, c.if-id-lt-TERMINALS.false)) (omega arith) in
    rw r.1 refl

pub returns : goal.returns
returns g c =
    let a = c.args in
    let n = c.node-node.result in
    let kind : n.kind ≡ Zbdd = search rules in
    subst (λ k. stands k a.from a.table.now.nodes a.id.0 ≡ true) kind
    (stands-weaker n.kind n.var a.from a.table.now.nodes a.id.0 (omega arith) (stands-node a.table.now.nodes a.id.0 n c.node-node.ensures.node))
