use Rattle.std.proofs.Common.{[], ◌∷◌, ◌++◌, ap, ◌∙◌, arith}
use Rattle.psa_nodes.specs.declared.node.Kind.TheVariants.{Zbdd}
use Rattle.psa_model.specs.declared.product.Literal.{Literal}
use Rattle.psa_nodes.proofs.CallerLemmas.{some-inner}
use Rattle.psa_products.proofs.StepLemmas.{inner, inner-node, few-left, down-hi, down-lo}
use Rattle.psa_products.proofs.walk.Walk.step_down.Goals as goal

pub node-node-requires : goal.node-node-requires
node-node-requires g c =
    let w = c.args.self.now in
    some-inner Zbdd 0 w.table.now.nodes w.at.0 c.requires.walk.at (inner w.table.now.nodes w.at.0 w.left c.requires.member c.requires.inner)

pub takes-requires-clause-hi : goal.takes-requires-clause-hi
takes-requires-clause-hi g c =
    let w = c.args.self.now in
    (inner-node w.table.now.nodes c.node-node.ensures.table.fit w.at.0 c.node-node.result c.requires.walk.at c.node-node.ensures.node).hi

pub takes-requires-clause-left : goal.takes-requires-clause-left
takes-requires-clause-left g c = omega (arith, few-left c.args.self.now c.requires.walk)

pub returns-then-takes-clause-walk : goal.returns-then-takes-clause-walk
returns-then-takes-clause-walk g c =
    let yes-side = c.takes.ensures.yes c.if-takes.true in
    (down-hi c.args.self.now c.requires.walk c.node-node.ensures.table.fit c.node-node.result c.node-node.ensures.node c.push.new.self c.push.ensures.items
    c.push-then-takes.new.self (c.push-then-takes.ensures.items ∙ ap (λ (literal : Literal). c.args.self.now.product.items ++ literal ∷ []) c.literal_with.ensures) yes-side.0 yes-side.1).walk

pub returns-else-takes-clause-walk : goal.returns-else-takes-clause-walk
returns-else-takes-clause-walk g c =
    (down-lo c.args.self.now c.requires.walk c.node-node.ensures.table.fit c.node-node.result c.node-node.ensures.node c.requires.member (c.takes.ensures.no c.if-takes.false)).walk

pub returns-then-takes-clause-member : goal.returns-then-takes-clause-member
returns-then-takes-clause-member g c =
    let yes-side = c.takes.ensures.yes c.if-takes.true in
    (down-hi c.args.self.now c.requires.walk c.node-node.ensures.table.fit c.node-node.result c.node-node.ensures.node c.push.new.self c.push.ensures.items
    c.push-then-takes.new.self (c.push-then-takes.ensures.items ∙ ap (λ (literal : Literal). c.args.self.now.product.items ++ literal ∷ []) c.literal_with.ensures) yes-side.0 yes-side.1).member

pub returns-else-takes-clause-member : goal.returns-else-takes-clause-member
returns-else-takes-clause-member g c =
    (down-lo c.args.self.now c.requires.walk c.node-node.ensures.table.fit c.node-node.result c.node-node.ensures.node c.requires.member (c.takes.ensures.no c.if-takes.false)).member

pub returns-then-takes-clause-same : goal.returns-then-takes-clause-same
returns-then-takes-clause-same g c =
    let yes-side = c.takes.ensures.yes c.if-takes.true in
    (down-hi c.args.self.now c.requires.walk c.node-node.ensures.table.fit c.node-node.result c.node-node.ensures.node c.push.new.self c.push.ensures.items
    c.push-then-takes.new.self (c.push-then-takes.ensures.items ∙ ap (λ (literal : Literal). c.args.self.now.product.items ++ literal ∷ []) c.literal_with.ensures) yes-side.0 yes-side.1).same

pub returns-else-takes-clause-same : goal.returns-else-takes-clause-same
returns-else-takes-clause-same g c =
    (down-lo c.args.self.now c.requires.walk c.node-node.ensures.table.fit c.node-node.result c.node-node.ensures.node c.requires.member (c.takes.ensures.no c.if-takes.false)).same

pub returns-then-takes-clause-lower : goal.returns-then-takes-clause-lower
returns-then-takes-clause-lower g c =
    let yes-side = c.takes.ensures.yes c.if-takes.true in
    (down-hi c.args.self.now c.requires.walk c.node-node.ensures.table.fit c.node-node.result c.node-node.ensures.node c.push.new.self c.push.ensures.items
    c.push-then-takes.new.self (c.push-then-takes.ensures.items ∙ ap (λ (literal : Literal). c.args.self.now.product.items ++ literal ∷ []) c.literal_with.ensures) yes-side.0 yes-side.1).lower

pub returns-else-takes-clause-lower : goal.returns-else-takes-clause-lower
returns-else-takes-clause-lower g c =
    (down-lo c.args.self.now c.requires.walk c.node-node.ensures.table.fit c.node-node.result c.node-node.ensures.node c.requires.member (c.takes.ensures.no c.if-takes.false)).lower
