use Rattle.std.proofs.Common.{◌≡◌, ◌≤◌, ◌+◌, ◌*◌, ℕ, true, false, arith}
use Rattle.std.proofs.lemmas.Bool.{false≢true}
use Rattle.psa_nodes.specs.declared.node.Kind.TheVariants.{Zbdd}
use Rattle.psa_nodes.proofs.CallerLemmas.{stands-terminal}
use Rattle.psa_graph.specs.Truths.{literal_truth}
use Rattle.psa_zbdd.proofs.LiteralFamilyLemmas.{empty-cover, never-occurs, single-cover, single-call}
use Rattle.psa_zbdd.proofs.graph_families.literal_family.Goals as goal

pub zbdd_node-requires-clause-hi : goal.zbdd_node-requires-clause-hi
zbdd_node-requires-clause-hi c = stands-terminal Zbdd (2 * c.args.rank + 1 + 1) c.args.table.now.nodes 1 (omega arith)

pub zbdd_node-requires-clause-lo : goal.zbdd_node-requires-clause-lo
zbdd_node-requires-clause-lo c = stands-terminal Zbdd (2 * c.args.rank + 1 + 1) c.args.table.now.nodes 0 (omega arith)

pub returns-then-not-occurs-clause-family : goal.returns-then-not-occurs-clause-family
returns-then-not-occurs-clause-family c =
    let a = c.args in
    rw c.if-not-occurs.true (single-cover a.limit a.rank false (λ e. absurd (false≢true e)) a.table.now c.check.ensures (omega (arith, c.requires)) c.zbdd_node.new.self c.zbdd_node.result c.zbdd_node.ensures.made)

pub returns-then-not-occurs-clause-call : goal.returns-then-not-occurs-clause-call
returns-then-not-occurs-clause-call c =
    let a = c.args in
    rw c.if-not-occurs.true (single-call a.limit a.rank false (λ e. absurd (false≢true e)) a.table.now c.check.ensures (omega (arith, c.requires)) c.zbdd_node.new.self c.zbdd_node.result c.zbdd_node.ensures.table c.zbdd_node.ensures.made)

pub returns-then-limit-eq0-clause-family : goal.returns-then-limit-eq0-clause-family
returns-then-limit-eq0-clause-family c =
    let a = c.args in
    rw c.if-not-occurs.false (λ width below. empty-cover width a.limit (literal_truth a.rank true) a.table.now.nodes (never-occurs a.rank a.limit c.if-limit-eq0.true))

pub zbdd_node-requires-2-clause-hi : goal.zbdd_node-requires-2-clause-hi
zbdd_node-requires-2-clause-hi c = stands-terminal Zbdd (2 * c.args.rank + 1) c.args.table.now.nodes 1 (omega arith)

pub zbdd_node-requires-2-clause-lo : goal.zbdd_node-requires-2-clause-lo
zbdd_node-requires-2-clause-lo c = stands-terminal Zbdd (2 * c.args.rank + 1) c.args.table.now.nodes 0 (omega arith)

-- a limit that is not 0
some-limit : (limit : ℕ) → (limit ≡ 0 → ⊥) → 1 ≤ limit
some-limit limit ne = omega arith

pub returns-clause-family : goal.returns-clause-family
returns-clause-family c =
    let a = c.args in
    rw c.if-not-occurs.false (single-cover a.limit a.rank true (λ e. some-limit a.limit c.if-limit-eq0.false) a.table.now c.check.ensures (omega (arith, c.requires)) c.zbdd_node-2.new.self c.zbdd_node-2.result c.zbdd_node-2.ensures.made)

pub returns-clause-call : goal.returns-clause-call
returns-clause-call c =
    let a = c.args in
    rw c.if-not-occurs.false (single-call a.limit a.rank true (λ e. some-limit a.limit c.if-limit-eq0.false) a.table.now c.check.ensures (omega (arith, c.requires)) c.zbdd_node-2.new.self c.zbdd_node-2.result c.zbdd_node-2.ensures.table c.zbdd_node-2.ensures.made)
