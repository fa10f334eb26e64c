use Rattle.std.proofs.Common.{◌+◌, ◌∙◌, sym, ap, arith}
use Rattle.psa_nodes.specs.declared.node.Kind.TheVariants.{Bdd}
use Rattle.psa_nodes.proofs.CallerLemmas.{stands-terminal}
use Rattle.psa_graph.specs.Truths.{literal_truth}
use Rattle.psa_bdd.proofs.BuildLemmas.{occurs-sides, fails-sides, literal-diagram, literal-call}
use Rattle.psa_bdd.proofs.building.build_literal.Goals as goal

pub bdd_node-requires-clause-hi : goal.bdd_node-requires-clause-hi
bdd_node-requires-clause-hi c = stands-terminal Bdd (c.args.rank + 1) c.args.table.now.nodes 1 (omega arith)

pub bdd_node-requires-clause-lo : goal.bdd_node-requires-clause-lo
bdd_node-requires-clause-lo c = stands-terminal Bdd (c.args.rank + 1) c.args.table.now.nodes 0 (omega arith)

pub bdd_node-requires-else-occurs-clause-hi : goal.bdd_node-requires-else-occurs-clause-hi
bdd_node-requires-else-occurs-clause-hi c = stands-terminal Bdd (c.args.rank + 1) c.args.table.now.nodes 0 (omega arith)

pub bdd_node-requires-else-occurs-clause-lo : goal.bdd_node-requires-else-occurs-clause-lo
bdd_node-requires-else-occurs-clause-lo c = stands-terminal Bdd (c.args.rank + 1) c.args.table.now.nodes 1 (omega arith)

pub returns-then-occurs-clause-diagram : goal.returns-then-occurs-clause-diagram
returns-then-occurs-clause-diagram c =
    let a = c.args in
    literal-diagram a.rank a.occurs (record { 0 = 1 }) (record { 0 = 0 }) a.table.now c.check.ensures c.requires (λ s. occurs-sides a.table.now.nodes a.rank s ∙ ap (λ b. literal_truth a.rank b s) (sym c.if-occurs.true))
    c.bdd_node.new.self c.bdd_node.result c.bdd_node.ensures.made

pub returns-then-occurs-clause-call : goal.returns-then-occurs-clause-call
returns-then-occurs-clause-call c =
    let a = c.args in
    literal-call a.rank a.occurs (record { 0 = 1 }) (record { 0 = 0 }) a.table.now c.check.ensures c.requires (λ s. occurs-sides a.table.now.nodes a.rank s ∙ ap (λ b. literal_truth a.rank b s) (sym c.if-occurs.true))
    c.bdd_node.new.self c.bdd_node.result c.bdd_node.ensures.table c.bdd_node.ensures.made

pub returns-else-occurs-clause-diagram : goal.returns-else-occurs-clause-diagram
returns-else-occurs-clause-diagram c =
    let a = c.args in
    literal-diagram a.rank a.occurs (record { 0 = 0 }) (record { 0 = 1 }) a.table.now c.check.ensures c.requires (λ s. fails-sides a.table.now.nodes a.rank s ∙ ap (λ b. literal_truth a.rank b s) (sym c.if-occurs.false))
    c.bdd_node-else-occurs.new.self c.bdd_node-else-occurs.result c.bdd_node-else-occurs.ensures.made

pub returns-else-occurs-clause-call : goal.returns-else-occurs-clause-call
returns-else-occurs-clause-call c =
    let a = c.args in
    literal-call a.rank a.occurs (record { 0 = 0 }) (record { 0 = 1 }) a.table.now c.check.ensures c.requires (λ s. fails-sides a.table.now.nodes a.rank s ∙ ap (λ b. literal_truth a.rank b s) (sym c.if-occurs.false))
    c.bdd_node-else-occurs.new.self c.bdd_node-else-occurs.result c.bdd_node-else-occurs.ensures.table c.bdd_node-else-occurs.ensures.made
