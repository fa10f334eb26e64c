use Rattle.std.proofs.Common.{◌<◌, ◌∙◌, length, get_or, arith}
use Rattle.psa_graph.specs.declared.graph.GraphNode.TheVariants as nodes
use Rattle.psa_graph.specs.Truths.{literal_truth, place_truth}
use Rattle.psa_nodes.specs.declared.node.TheConstants.NodeId.{FALSE}
use Rattle.psa_bdd.specs.declared.connective.Connective.TheVariants as connectives
use Rattle.psa_graph.proofs.PlaceTruthLemmas.{node-here, node-behind, place-reads}
use Rattle.psa_bdd.proofs.BuildLemmas.{terminal-diagram, diagram-same, place-call, combined-diagram, combined-call}
use Rattle.psa_bdd.proofs.building.build_place.Goals as goal

pub build_literal-requires : goal.build_literal-requires
build_literal-requires g c =
    let a = c.args in
    let graph = a.graph.now in
    let node = nodes.Literal c.in-Literal.rank c.in-Literal.occurs in
    let here = node-here c.as_slice.result.now graph a.place node c.as_slice.ensures c.requires.place c.in-Literal.is in
    let below : c.in-Literal.rank < graph.width = node-behind graph c.requires.graph a.place node here in
    omega (arith, below, c.requires.width)

pub offset_bounds-built-left : goal.offset_bounds-built-left
offset_bounds-built-left g c =
    let a = c.args in
    let graph = a.graph.now in
    let node = nodes.And c.in-And.left c.in-And.right in
    let here = node-here c.as_slice.result.now graph a.place node c.as_slice.ensures c.requires.place c.in-And.is in
    let sides = c.requires.sides c.if-not-needed.false node here in
    let low : c.in-And.left < length a.built.now = sides.0.within in
    omega (arith, low)

pub bounds-built-left : goal.bounds-built-left
bounds-built-left g c =
    let a = c.args in
    let graph = a.graph.now in
    let node = nodes.And c.in-And.left c.in-And.right in
    let here = node-here c.as_slice.result.now graph a.place node c.as_slice.ensures c.requires.place c.in-And.is in
    let sides = c.requires.sides c.if-not-needed.false node here in
    sides.0.within

pub and-requires-clause-left : goal.and-requires-clause-left
and-requires-clause-left g c =
    let a = c.args in
    let graph = a.graph.now in
    let node = nodes.And c.in-And.left c.in-And.right in
    let here = node-here c.as_slice.result.now graph a.place node c.as_slice.ensures c.requires.place c.in-And.is in
    let sides = c.requires.sides c.if-not-needed.false node here in
    sides.0.diagram.stands_at

pub offset_bounds-built-right : goal.offset_bounds-built-right
offset_bounds-built-right g c =
    let a = c.args in
    let graph = a.graph.now in
    let node = nodes.And c.in-And.left c.in-And.right in
    let here = node-here c.as_slice.result.now graph a.place node c.as_slice.ensures c.requires.place c.in-And.is in
    let sides = c.requires.sides c.if-not-needed.false node here in
    let low : c.in-And.right < length a.built.now = sides.1.within in
    omega (arith, low)

pub bounds-built-right : goal.bounds-built-right
bounds-built-right g c =
    let a = c.args in
    let graph = a.graph.now in
    let node = nodes.And c.in-And.left c.in-And.right in
    let here = node-here c.as_slice.result.now graph a.place node c.as_slice.ensures c.requires.place c.in-And.is in
    let sides = c.requires.sides c.if-not-needed.false node here in
    sides.1.within

pub and-requires-clause-right : goal.and-requires-clause-right
and-requires-clause-right g c =
    let a = c.args in
    let graph = a.graph.now in
    let node = nodes.And c.in-And.left c.in-And.right in
    let here = node-here c.as_slice.result.now graph a.place node c.as_slice.ensures c.requires.place c.in-And.is in
    let sides = c.requires.sides c.if-not-needed.false node here in
    sides.1.diagram.stands_at

pub returns-in-And-clause-diagram : goal.returns-in-And-clause-diagram
returns-in-And-clause-diagram g c =
    let a = c.args in
    let graph = a.graph.now in
    let node = nodes.And c.in-And.left c.in-And.right in
    let here = node-here c.as_slice.result.now graph a.place node c.as_slice.ensures c.requires.place c.in-And.is in
    let sides = c.requires.sides c.if-not-needed.false node here in
    λ need. combined-diagram connectives.And graph a.place c.in-And.left c.in-And.right c.requires.place (λ s. place-reads graph c.requires.graph a.place node here s)
    a.table.now (get_or a.built.now c.in-And.left FALSE) (get_or a.built.now c.in-And.right FALSE) sides.0.diagram sides.1.diagram
    c.and.new.table c.and.result c.and.ensures.call c.and.ensures.conjunction

pub returns-in-And-clause-call : goal.returns-in-And-clause-call
returns-in-And-clause-call g c =
    let a = c.args in
    let graph = a.graph.now in
    let node = nodes.And c.in-And.left c.in-And.right in
    let here = node-here c.as_slice.result.now graph a.place node c.as_slice.ensures c.requires.place c.in-And.is in
    let sides = c.requires.sides c.if-not-needed.false node here in
    combined-call connectives.And graph a.place c.in-And.left c.in-And.right c.requires.place (λ s. place-reads graph c.requires.graph a.place node here s)
    a.table.now (get_or a.built.now c.in-And.left FALSE) (get_or a.built.now c.in-And.right FALSE) sides.0.diagram sides.1.diagram
    c.and.new.table c.and.result c.and.ensures.call

pub offset_bounds-built-left-in-Or : goal.offset_bounds-built-left-in-Or
offset_bounds-built-left-in-Or g c =
    let a = c.args in
    let graph = a.graph.now in
    let node = nodes.Or c.in-Or.left c.in-Or.right in
    let here = node-here c.as_slice.result.now graph a.place node c.as_slice.ensures c.requires.place c.in-Or.is in
    let sides = c.requires.sides c.if-not-needed.false node here in
    let low : c.in-Or.left < length a.built.now = sides.0.within in
    omega (arith, low)

pub bounds-built-left-in-Or : goal.bounds-built-left-in-Or
bounds-built-left-in-Or g c =
    let a = c.args in
    let graph = a.graph.now in
    let node = nodes.Or c.in-Or.left c.in-Or.right in
    let here = node-here c.as_slice.result.now graph a.place node c.as_slice.ensures c.requires.place c.in-Or.is in
    let sides = c.requires.sides c.if-not-needed.false node here in
    sides.0.within

pub or-requires-clause-left : goal.or-requires-clause-left
or-requires-clause-left g c =
    let a = c.args in
    let graph = a.graph.now in
    let node = nodes.Or c.in-Or.left c.in-Or.right in
    let here = node-here c.as_slice.result.now graph a.place node c.as_slice.ensures c.requires.place c.in-Or.is in
    let sides = c.requires.sides c.if-not-needed.false node here in
    sides.0.diagram.stands_at

pub offset_bounds-built-right-in-Or : goal.offset_bounds-built-right-in-Or
offset_bounds-built-right-in-Or g c =
    let a = c.args in
    let graph = a.graph.now in
    let node = nodes.Or c.in-Or.left c.in-Or.right in
    let here = node-here c.as_slice.result.now graph a.place node c.as_slice.ensures c.requires.place c.in-Or.is in
    let sides = c.requires.sides c.if-not-needed.false node here in
    let low : c.in-Or.right < length a.built.now = sides.1.within in
    omega (arith, low)

pub bounds-built-right-in-Or : goal.bounds-built-right-in-Or
bounds-built-right-in-Or g c =
    let a = c.args in
    let graph = a.graph.now in
    let node = nodes.Or c.in-Or.left c.in-Or.right in
    let here = node-here c.as_slice.result.now graph a.place node c.as_slice.ensures c.requires.place c.in-Or.is in
    let sides = c.requires.sides c.if-not-needed.false node here in
    sides.1.within

pub or-requires-clause-right : goal.or-requires-clause-right
or-requires-clause-right g c =
    let a = c.args in
    let graph = a.graph.now in
    let node = nodes.Or c.in-Or.left c.in-Or.right in
    let here = node-here c.as_slice.result.now graph a.place node c.as_slice.ensures c.requires.place c.in-Or.is in
    let sides = c.requires.sides c.if-not-needed.false node here in
    sides.1.diagram.stands_at

pub returns-in-Or-clause-diagram : goal.returns-in-Or-clause-diagram
returns-in-Or-clause-diagram g c =
    let a = c.args in
    let graph = a.graph.now in
    let node = nodes.Or c.in-Or.left c.in-Or.right in
    let here = node-here c.as_slice.result.now graph a.place node c.as_slice.ensures c.requires.place c.in-Or.is in
    let sides = c.requires.sides c.if-not-needed.false node here in
    λ need. combined-diagram connectives.Or graph a.place c.in-Or.left c.in-Or.right c.requires.place (λ s. place-reads graph c.requires.graph a.place node here s)
    a.table.now (get_or a.built.now c.in-Or.left FALSE) (get_or a.built.now c.in-Or.right FALSE) sides.0.diagram sides.1.diagram
    c.or.new.table c.or.result c.or.ensures.call c.or.ensures.disjunction

pub returns-in-Or-clause-call : goal.returns-in-Or-clause-call
returns-in-Or-clause-call g c =
    let a = c.args in
    let graph = a.graph.now in
    let node = nodes.Or c.in-Or.left c.in-Or.right in
    let here = node-here c.as_slice.result.now graph a.place node c.as_slice.ensures c.requires.place c.in-Or.is in
    let sides = c.requires.sides c.if-not-needed.false node here in
    combined-call connectives.Or graph a.place c.in-Or.left c.in-Or.right c.requires.place (λ s. place-reads graph c.requires.graph a.place node here s)
    a.table.now (get_or a.built.now c.in-Or.left FALSE) (get_or a.built.now c.in-Or.right FALSE) sides.0.diagram sides.1.diagram
    c.or.new.table c.or.result c.or.ensures.call

pub returns-then-state-clause-diagram : goal.returns-then-state-clause-diagram
returns-then-state-clause-diagram g c =
    let a = c.args in
    let graph = a.graph.now in
    let node = nodes.Constant c.in-Constant.state in
    let here = node-here c.as_slice.result.now graph a.place node c.as_slice.ensures c.requires.place c.in-Constant.is in
    λ need. terminal-diagram (place_truth graph a.place) a.table.now.nodes 1 (omega arith) (λ s. place-reads graph c.requires.graph a.place node here s ∙ c.if-state.true)

pub returns-else-state-clause-diagram : goal.returns-else-state-clause-diagram
returns-else-state-clause-diagram g c =
    let a = c.args in
    let graph = a.graph.now in
    let node = nodes.Constant c.in-Constant.state in
    let here = node-here c.as_slice.result.now graph a.place node c.as_slice.ensures c.requires.place c.in-Constant.is in
    λ need. terminal-diagram (place_truth graph a.place) a.table.now.nodes 0 (omega arith) (λ s. place-reads graph c.requires.graph a.place node here s ∙ c.if-state.false)

pub returns-in-Literal-clause-diagram : goal.returns-in-Literal-clause-diagram
returns-in-Literal-clause-diagram g c =
    let a = c.args in
    let graph = a.graph.now in
    let node = nodes.Literal c.in-Literal.rank c.in-Literal.occurs in
    let here = node-here c.as_slice.result.now graph a.place node c.as_slice.ensures c.requires.place c.in-Literal.is in
    λ need. diagram-same (literal_truth c.in-Literal.rank c.in-Literal.occurs) (place_truth graph a.place) (λ s. place-reads graph c.requires.graph a.place node here s)
    c.build_literal.new.table.nodes c.build_literal.result c.build_literal.ensures.diagram

pub returns-in-Literal-clause-call : goal.returns-in-Literal-clause-call
returns-in-Literal-clause-call g c =
    let a = c.args in
    let graph = a.graph.now in
    let node = nodes.Literal c.in-Literal.rank c.in-Literal.occurs in
    let here = node-here c.as_slice.result.now graph a.place node c.as_slice.ensures c.requires.place c.in-Literal.is in
    place-call graph a.place c.requires.place (literal_truth c.in-Literal.rank c.in-Literal.occurs) (λ s. place-reads graph c.requires.graph a.place node here s)
    a.table.now c.build_literal.new.table c.build_literal.result c.build_literal.ensures.call
