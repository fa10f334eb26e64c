use Rattle.std.proofs.Common.{◌∙◌, Ok, Err, sym, ap, length}
use Rattle.std.proofs.lemmas.Result.{err_from_is_err_and}
use Rattle.psa_sections.specs.ProductNodes.{analysis_by}
use Rattle.psa_sections.proofs.ProductNodeLemmas.{diagram-target, diagram-kept, cut-node, prime-node, built-call, cut-call, prime-call, graph-target, graph-node, graph-call}
use Rattle.psa_sections.proofs.products.products_of_target.Goals as goal

pub returns-in_err-root-clause-call : goal.returns-in_err-root-clause-call
returns-in_err-root-clause-call g c =
    let a = c.args in
    let p = err_from_is_err_and c.from_residual-in_err-root.result c.from_residual-in_err-root.ensures.1 in
    λ values.
    rw (p.1, p.2) (built-call (analysis_by a.settings.now a.expanded.now values) a.target.now (sym c.is_by_graph.ensures ∙ c.if-is_by_graph.false) c.in_ok-graph.graph c.in_ok-graph.ensures.parts (Err c.in_err-root.field-0.0) c.in_err-root.ensures.call)

pub returns-in-CutSets-clause-products : goal.returns-in-CutSets-clause-products
returns-in-CutSets-clause-products g c =
    let a = c.args in
    let root = c.in_ok-root.root in
    let built = c.in_ok-root.ensures.built in
    let call = c.minimal_of_bdd.ensures.call in
    let same = diagram-target a.expanded.now a.target.now a.ranks.now c.in_ok-graph.graph c.build.new.table.nodes root.0 c.requires.ranks c.in_ok-graph.ensures.truth built.1 in
    λ values.
    cut-node (analysis_by a.settings.now a.expanded.now values) a.target.now c.minimal_of_bdd.new.table root.0 (diagram-kept call.progress.nodes root.0 built.0 ∙ same) c.in-CutSets.is c.minimal_of_bdd.result c.minimal_of_bdd.ensures.minimal

pub returns-in-CutSets-clause-call : goal.returns-in-CutSets-clause-call
returns-in-CutSets-clause-call g c =
    let a = c.args in
    let root = c.in_ok-root.root in
    let built = c.in_ok-root.ensures.built in
    let same = diagram-target a.expanded.now a.target.now a.ranks.now c.in_ok-graph.graph c.build.new.table.nodes root.0 c.requires.ranks c.in_ok-graph.ensures.truth built.1 in
    λ values.
    cut-call (analysis_by a.settings.now a.expanded.now values) a.target.now root same c.minimal_of_bdd.result
    (built-call (analysis_by a.settings.now a.expanded.now values) a.target.now (sym c.is_by_graph.ensures ∙ c.if-is_by_graph.false) c.in_ok-graph.graph c.in_ok-graph.ensures.parts (Ok root) c.in_ok-root.ensures.call)
    (sym c.is_by_graph.ensures ∙ c.if-is_by_graph.false) c.in-CutSets.is c.minimal_of_bdd.ensures.call

pub returns-clause-products : goal.returns-clause-products
returns-clause-products g c =
    let a = c.args in
    let root = c.in_ok-root.root in
    let built = c.in_ok-root.ensures.built in
    let call = c.primes_of_bdd.ensures.call in
    let same = diagram-target a.expanded.now a.target.now a.ranks.now c.in_ok-graph.graph c.build.new.table.nodes root.0 c.requires.ranks c.in_ok-graph.ensures.truth built.1 in
    λ values.
    prime-node (analysis_by a.settings.now a.expanded.now values) a.target.now c.primes_of_bdd.new.table root.0 (diagram-kept call.progress.nodes root.0 built.0 ∙ same) c.in-Primes.is c.primes_of_bdd.result c.primes_of_bdd.ensures.primes

pub returns-clause-call : goal.returns-clause-call
returns-clause-call g c =
    let a = c.args in
    let root = c.in_ok-root.root in
    let built = c.in_ok-root.ensures.built in
    let same = diagram-target a.expanded.now a.target.now a.ranks.now c.in_ok-graph.graph c.build.new.table.nodes root.0 c.requires.ranks c.in_ok-graph.ensures.truth built.1 in
    λ values.
    prime-call (analysis_by a.settings.now a.expanded.now values) a.target.now root same c.primes_of_bdd.result
    (built-call (analysis_by a.settings.now a.expanded.now values) a.target.now (sym c.is_by_graph.ensures ∙ c.if-is_by_graph.false) c.in_ok-graph.graph c.in_ok-graph.ensures.parts (Ok root) c.in_ok-root.ensures.call)
    (sym c.is_by_graph.ensures ∙ c.if-is_by_graph.false) c.in-Primes.is c.primes_of_bdd.ensures.call

pub returns-then-is_by_graph-clause-products : goal.returns-then-is_by_graph-clause-products
returns-then-is_by_graph-clause-products g c =
    let a = c.args in
    λ values.
    graph-node (analysis_by a.settings.now a.expanded.now values) a.target.now (sym c.is_by_graph.ensures ∙ c.if-is_by_graph.true) c.in_ok-graph.graph
    (graph-target a.expanded.now a.target.now a.ranks.now c.in_ok-graph.graph c.requires.ranks c.in_ok-graph.ensures.truth)
    c.minimal_of_graph.new.table c.minimal_of_graph.result c.minimal_of_graph.ensures.minimal

pub returns-then-is_by_graph-clause-call : goal.returns-then-is_by_graph-clause-call
returns-then-is_by_graph-clause-call g c =
    let a = c.args in
    λ values.
    graph-call (analysis_by a.settings.now a.expanded.now values) a.target.now (sym c.is_by_graph.ensures ∙ c.if-is_by_graph.true) c.in_ok-graph.graph
    (c.in_ok-graph.ensures.width ∙ ap length c.requires.ranks) c.in_ok-graph.ensures.parts
    c.minimal_of_graph.result c.minimal_of_graph.ensures.call
