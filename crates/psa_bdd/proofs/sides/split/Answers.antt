use Rattle.std.proofs.Common.{◌≡◌, ◌<◌, ◌*◌, ℕ, min, arith, ap, ◌∙◌}
use Rattle.psa_nodes.specs.declared.node.Kind.{Kind}
use Rattle.psa_nodes.specs.declared.node.Kind.TheVariants.{Bdd}
use Rattle.psa_nodes.specs.declared.node.TheConstants.{MAX_RANKS}
use Rattle.psa_nodes.specs.Readings.{level, first_literal}
use Rattle.psa_nodes.proofs.CallerLemmas.{some-inner, stands-at, stands-node, stands-weaker, level-node}
use Rattle.psa_bdd.proofs.sides.split.Goals as goal

-- the least of two levels is that of the least variable
least : (a b x y v : ℕ) → a ≡ 2 * x → b ≡ 2 * y → v ≡ min x y → 2 * v ≡ min a b
least a b x y v p q r = omega arith

pub node-first-requires : goal.node-first-requires
node-first-requires g c = some-inner Bdd 0 c.args.table.now.nodes c.args.left.0 c.requires.left c.requires.inner.0

pub node-second-requires : goal.node-second-requires
node-second-requires g c = some-inner Bdd 0 c.args.table.now.nodes c.args.right.0 c.requires.right c.requires.inner.1

pub returns-clause-left : goal.returns-clause-left
returns-clause-left g c =
    let ns = c.args.table.now.nodes in
    let there = c.node-first.ensures.node in
    c.sides_at.ensures ns c.node-first.ensures.table.fit there (stands-at Bdd 0 ns c.args.left.0 c.node-first.result c.requires.left there).0

pub returns-clause-right : goal.returns-clause-right
returns-clause-right g c =
    let ns = c.args.table.now.nodes in
    let there = c.node-second.ensures.node in
    c.sides_at-2.ensures ns c.node-second.ensures.table.fit there (stands-at Bdd 0 ns c.args.right.0 c.node-second.result c.requires.right there).0

pub returns-clause-left_stands : goal.returns-clause-left_stands
returns-clause-left_stands g c =
    let ns = c.args.table.now.nodes in
    let there = c.node-first.ensures.node in
    let kind = (stands-at Bdd 0 ns c.args.left.0 c.node-first.result c.requires.left there).0 in
    rw kind at (stands-weaker c.node-first.result.kind c.node-first.result.var c.min-var.result ns c.args.left.0 (let h = c.min-var.ensures in omega (arith, h)) (stands-node ns c.args.left.0 c.node-first.result there))

pub returns-clause-right_stands : goal.returns-clause-right_stands
returns-clause-right_stands g c =
    let ns = c.args.table.now.nodes in
    let there = c.node-second.ensures.node in
    let kind = (stands-at Bdd 0 ns c.args.right.0 c.node-second.result c.requires.right there).0 in
    rw kind at (stands-weaker c.node-second.result.kind c.node-second.result.var c.min-var.result ns c.args.right.0 (let h = c.min-var.ensures in omega (arith, h)) (stands-node ns c.args.right.0 c.node-second.result there))

pub returns-clause-least : goal.returns-clause-least
returns-clause-least g c =
    let ns = c.args.table.now.nodes in
    let first = c.node-first.result in
    let second = c.node-second.result in
    let first_there = c.node-first.ensures.node in
    let second_there = c.node-second.ensures.node in
    let first_level : level ns c.args.left.0 ≡ 2 * first.var =
    level-node ns c.args.left.0 first first_there ∙ ap (λ (k : Kind). first_literal k first.var) (stands-at Bdd 0 ns c.args.left.0 first c.requires.left first_there).0 in
    let second_level : level ns c.args.right.0 ≡ 2 * second.var =
    level-node ns c.args.right.0 second second_there ∙ ap (λ (k : Kind). first_literal k second.var) (stands-at Bdd 0 ns c.args.right.0 second c.requires.right second_there).0 in
    least (level ns c.args.left.0) (level ns c.args.right.0) first.var second.var c.min-var.result first_level second_level c.min-var.ensures

pub returns-clause-bound : goal.returns-clause-bound
returns-clause-bound g c =
    let ns = c.args.table.now.nodes in
    let first = c.node-first.result in
    let there = c.node-first.ensures.node in
    let own = c.requires.bounded c.args.left.0 first there in
    let small : first.var < MAX_RANKS = rw (stands-at Bdd 0 ns c.args.left.0 first c.requires.left there).0 at own in
    omega (arith, small, c.min-var.ensures)
