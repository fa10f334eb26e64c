use Rattle.std.proofs.Common.{sym, ◌∙◌}
use Rattle.psa_bodies.proofs.NamedTrees.{tree-is-open, tree-is-first}
use Rattle.psa_bodies.proofs.trees.tree_around.Goals as goal

pub returns-then-is_named : goal.returns-then-is_named
returns-then-is_named c = λ kind are distinct.
    tree-is-open c.args.draft.now kind c.args.trees.now c.args.container.now c.name-item.result c.args.open c.in-len1-up.len_at_least c.name-item.is (sym c.is_named.ensures ∙ c.if-is_named.true) are distinct

pub returns-else-is_named : goal.returns-else-is_named
returns-else-is_named c = λ kind are distinct.
    tree-is-first c.args.draft.now kind c.args.trees.now c.args.container.now c.name-item.result c.first_named.result c.in-len1-up.len_at_least c.name-item.is c.first_named.ensures are
