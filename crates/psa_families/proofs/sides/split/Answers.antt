use Rattle.psa_families.proofs.SidesLemmas.{least-bounded, sides-of}
use Rattle.psa_families.proofs.sides.split.Goals as goal

pub returns-clause-sides : goal.returns-clause-sides
returns-clause-sides g c =
    let a = c.args in
    let ns = a.table.now.nodes in
    let var = c.least_variable-var.result in
    sides-of ns a.left a.right (record { var = var; left_hi = c.sides_at.result.0; left_lo = c.sides_at.result.1; right_hi = c.sides_at-2.result.0; right_lo = c.sides_at-2.result.1 })
    c.read-first.result c.read-second.result c.requires.left c.requires.right
    c.read-first.ensures.node c.read-first.ensures.terminal c.read-second.ensures.node c.read-second.ensures.terminal
    (least-bounded ns c.requires.bounded a.left.0 a.right.0 c.requires.left c.requires.right c.read-first.result c.read-second.result
    c.read-first.ensures.node c.read-second.ensures.node var c.least_variable-var.ensures)
    c.least_variable-var.ensures
    (c.sides_at.ensures ns c.check.ensures.fit c.requires.left c.read-first.ensures.node)
    (c.sides_at-2.ensures ns c.check.ensures.fit c.requires.right c.read-second.ensures.node)
