use Rattle.std.proofs.Common.{ap, sym, ◌∙◌, arith}
use Rattle.psa_nodes.specs.declared.node.Kind.TheVariants.{Zbdd}
use Rattle.psa_nodes.specs.Readings.{Reading, has}
use Rattle.psa_nodes.proofs.CallerLemmas.{at, inner-from, some-inner}
use Rattle.psa_products.proofs.MemberLemmas.{children}
use Rattle.psa_products.proofs.StepLemmas.{inner-node}
use Rattle.psa_listing_tests.proofs.OrderLemmas.{terminal-order, joined-order}
use Rattle.psa_listing_tests.proofs.families.+expect_order.Goals as goal

pub returns-then-is_terminal : goal.returns-then-is_terminal
returns-then-is_terminal g n c = λ set m.
    let few = terminal-order c.args.table.now.nodes c.args.family.0 (c.is_terminal.ensures.0 c.if-is_terminal.true) set m in
    omega (arith, few)

pub node-node-requires : goal.node-node-requires
node-node-requires g n c =
    some-inner Zbdd 0 c.args.table.now.nodes c.args.family.0 c.requires (inner-from c.args.family.0 c.is_terminal.result c.is_terminal.ensures c.if-is_terminal.false)

pub expect_order-requires : goal.expect_order-requires
expect_order-requires g n c κs within =
    let a = c.args in
    let node = c.node-node.ensures in
    let less = (children a.table.now.nodes node.table.fit a.family.0 c.node-node.result node.node).hi in
    (omega (arith, less), (within.0, (within.1, (inner-node a.table.now.nodes node.table.fit a.family.0 c.node-node.result c.requires node.node).hi)))

pub expect_order-requires-2 : goal.expect_order-requires-2
expect_order-requires-2 g n c κs within =
    let a = c.args in
    let node = c.node-node.ensures in
    let less = (children a.table.now.nodes node.table.fit a.family.0 c.node-node.result node.node).lo in
    (omega (arith, less), (within.0, (within.1, (inner-node a.table.now.nodes node.table.fit a.family.0 c.node-node.result c.requires node.node).lo)))

pub returns : goal.returns
returns g n c = λ set m.
    let ns = c.args.table.now.nodes in
    let node = c.node-node.result in
    let a = at ns c.node-node.ensures.table.fit c.args.family.0 node c.node-node.ensures.node in
    joined-order node.var (has ns node.hi.0) (has ns node.lo.0) c.args.limit (omega arith)
    c.expect_order.ensures c.expect_order-2.ensures set
    (sym (ap (λ (r : Reading). r.as_family set) a.reads) ∙ m)
