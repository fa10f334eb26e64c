use Rattle.std.proofs.Common.{ℕ, ◌<◌, ◌∙◌, length, get_or, arith}
use Rattle.psa_logic.specs.Sets.{occurs}
use Rattle.psa_graph.specs.declared.graph.GraphNode.TheVariants as nodes
use Rattle.psa_graph.specs.Truths.{literal_truth, place_truth}
use Rattle.psa_nodes.specs.declared.node.TheConstants.NodeId.{EMPTY}
use Rattle.psa_graph.proofs.PlaceTruthLemmas.{node-here, node-behind, place-reads}
use Rattle.psa_zbdd.specs.GraphFamilies.{IsSignedImplicant, IsGraphProduct}
use Rattle.psa_zbdd.proofs.GraphFamilySteps.{wider-source, place-product, place-same, both-family, both-call, either-family, either-call}
use Rattle.psa_zbdd.proofs.LiteralFamilyLemmas.{unit-cover, empty-cover}
use Rattle.psa_zbdd.proofs.graph_families.place_family.Goals as goal

-- a place before another is one of the graph
before-place : (place side size : ℕ) → place < size → side < place → side < size
before-place place side size inside lt = omega arith

pub literal_family-requires : goal.literal_family-requires
literal_family-requires g c =
    let a = c.args in
    let graph = a.graph.now in
    let node = nodes.Literal c.in-Literal.rank c.in-Literal.occurs in
    let here = node-here c.as_slice.result.now graph a.place node c.as_slice.ensures c.requires.place c.in-Literal.is in
    let below : c.in-Literal.rank < graph.width = node-behind graph c.requires.graph a.place node here in
    omega (arith, below, c.requires.width)

pub offset_bounds-families-left : goal.offset_bounds-families-left
offset_bounds-families-left g c =
    let a = c.args in
    let graph = a.graph.now in
    let node = nodes.And c.in-And.left c.in-And.right in
    let here = node-here c.as_slice.result.now graph a.place node c.as_slice.ensures c.requires.place c.in-And.is in
    let sides = c.requires.sides c.if-not-needed.false node here in
    let low : c.in-And.left < length a.families.now = sides.0.within in
    omega (arith, low)

pub bounds-families-left : goal.bounds-families-left
bounds-families-left g c =
    let a = c.args in
    let graph = a.graph.now in
    let node = nodes.And c.in-And.left c.in-And.right in
    let here = node-here c.as_slice.result.now graph a.place node c.as_slice.ensures c.requires.place c.in-And.is in
    let sides = c.requires.sides c.if-not-needed.false node here in
    sides.0.within

pub both_families-requires-clause-left : goal.both_families-requires-clause-left
both_families-requires-clause-left g c =
    let a = c.args in
    let graph = a.graph.now in
    let node = nodes.And c.in-And.left c.in-And.right in
    let here = node-here c.as_slice.result.now graph a.place node c.as_slice.ensures c.requires.place c.in-And.is in
    let sides = c.requires.sides c.if-not-needed.false node here in
    sides.0.family.stands_at

pub offset_bounds-families-right : goal.offset_bounds-families-right
offset_bounds-families-right g c =
    let a = c.args in
    let graph = a.graph.now in
    let node = nodes.And c.in-And.left c.in-And.right in
    let here = node-here c.as_slice.result.now graph a.place node c.as_slice.ensures c.requires.place c.in-And.is in
    let sides = c.requires.sides c.if-not-needed.false node here in
    let low : c.in-And.right < length a.families.now = sides.1.within in
    omega (arith, low)

pub bounds-families-right : goal.bounds-families-right
bounds-families-right g c =
    let a = c.args in
    let graph = a.graph.now in
    let node = nodes.And c.in-And.left c.in-And.right in
    let here = node-here c.as_slice.result.now graph a.place node c.as_slice.ensures c.requires.place c.in-And.is in
    let sides = c.requires.sides c.if-not-needed.false node here in
    sides.1.within

pub both_families-requires-clause-right : goal.both_families-requires-clause-right
both_families-requires-clause-right g c =
    let a = c.args in
    let graph = a.graph.now in
    let node = nodes.And c.in-And.left c.in-And.right in
    let here = node-here c.as_slice.result.now graph a.place node c.as_slice.ensures c.requires.place c.in-And.is in
    let sides = c.requires.sides c.if-not-needed.false node here in
    sides.1.family.stands_at

pub returns-in-And-clause-family : goal.returns-in-And-clause-family
returns-in-And-clause-family g c =
    let a = c.args in
    let graph = a.graph.now in
    let node = nodes.And c.in-And.left c.in-And.right in
    let here = node-here c.as_slice.result.now graph a.place node c.as_slice.ensures c.requires.place c.in-And.is in
    let sides = c.requires.sides c.if-not-needed.false node here in
    λ need. both-family graph a.limit a.place c.in-And.left c.in-And.right c.requires.place (before-place a.place c.in-And.left (length graph.nodes) c.requires.place (node-behind graph c.requires.graph a.place node here).0) (before-place a.place c.in-And.right (length graph.nodes) c.requires.place (node-behind graph c.requires.graph a.place node here).1)
    a.table.now (get_or a.families.now c.in-And.left EMPTY) (get_or a.families.now c.in-And.right EMPTY) sides.0.family sides.1.family
    (λ s. place-reads graph c.requires.graph a.place node here s)
    c.both_families.new.table c.both_families.result c.both_families.ensures.family

pub returns-in-And-clause-call : goal.returns-in-And-clause-call
returns-in-And-clause-call g c =
    let a = c.args in
    let graph = a.graph.now in
    let node = nodes.And c.in-And.left c.in-And.right in
    let here = node-here c.as_slice.result.now graph a.place node c.as_slice.ensures c.requires.place c.in-And.is in
    let sides = c.requires.sides c.if-not-needed.false node here in
    both-call graph a.limit a.place c.in-And.left c.in-And.right c.requires.place (before-place a.place c.in-And.left (length graph.nodes) c.requires.place (node-behind graph c.requires.graph a.place node here).0) (before-place a.place c.in-And.right (length graph.nodes) c.requires.place (node-behind graph c.requires.graph a.place node here).1)
    a.table.now (get_or a.families.now c.in-And.left EMPTY) (get_or a.families.now c.in-And.right EMPTY) sides.0.family sides.1.family
    (λ s. place-reads graph c.requires.graph a.place node here s)
    c.both_families.new.table c.both_families.result c.both_families.ensures.call

pub offset_bounds-families-left-in-Or : goal.offset_bounds-families-left-in-Or
offset_bounds-families-left-in-Or g c =
    let a = c.args in
    let graph = a.graph.now in
    let node = nodes.Or c.in-Or.left c.in-Or.right in
    let here = node-here c.as_slice.result.now graph a.place node c.as_slice.ensures c.requires.place c.in-Or.is in
    let sides = c.requires.sides c.if-not-needed.false node here in
    let low : c.in-Or.left < length a.families.now = sides.0.within in
    omega (arith, low)

pub bounds-families-left-in-Or : goal.bounds-families-left-in-Or
bounds-families-left-in-Or g c =
    let a = c.args in
    let graph = a.graph.now in
    let node = nodes.Or c.in-Or.left c.in-Or.right in
    let here = node-here c.as_slice.result.now graph a.place node c.as_slice.ensures c.requires.place c.in-Or.is in
    let sides = c.requires.sides c.if-not-needed.false node here in
    sides.0.within

pub either_family-requires-clause-left : goal.either_family-requires-clause-left
either_family-requires-clause-left g c =
    let a = c.args in
    let graph = a.graph.now in
    let node = nodes.Or c.in-Or.left c.in-Or.right in
    let here = node-here c.as_slice.result.now graph a.place node c.as_slice.ensures c.requires.place c.in-Or.is in
    let sides = c.requires.sides c.if-not-needed.false node here in
    sides.0.family.stands_at

pub offset_bounds-families-right-in-Or : goal.offset_bounds-families-right-in-Or
offset_bounds-families-right-in-Or g c =
    let a = c.args in
    let graph = a.graph.now in
    let node = nodes.Or c.in-Or.left c.in-Or.right in
    let here = node-here c.as_slice.result.now graph a.place node c.as_slice.ensures c.requires.place c.in-Or.is in
    let sides = c.requires.sides c.if-not-needed.false node here in
    let low : c.in-Or.right < length a.families.now = sides.1.within in
    omega (arith, low)

pub bounds-families-right-in-Or : goal.bounds-families-right-in-Or
bounds-families-right-in-Or g c =
    let a = c.args in
    let graph = a.graph.now in
    let node = nodes.Or c.in-Or.left c.in-Or.right in
    let here = node-here c.as_slice.result.now graph a.place node c.as_slice.ensures c.requires.place c.in-Or.is in
    let sides = c.requires.sides c.if-not-needed.false node here in
    sides.1.within

pub either_family-requires-clause-right : goal.either_family-requires-clause-right
either_family-requires-clause-right g c =
    let a = c.args in
    let graph = a.graph.now in
    let node = nodes.Or c.in-Or.left c.in-Or.right in
    let here = node-here c.as_slice.result.now graph a.place node c.as_slice.ensures c.requires.place c.in-Or.is in
    let sides = c.requires.sides c.if-not-needed.false node here in
    sides.1.family.stands_at

pub returns-in-Or-clause-family : goal.returns-in-Or-clause-family
returns-in-Or-clause-family g c =
    let a = c.args in
    let graph = a.graph.now in
    let node = nodes.Or c.in-Or.left c.in-Or.right in
    let here = node-here c.as_slice.result.now graph a.place node c.as_slice.ensures c.requires.place c.in-Or.is in
    let sides = c.requires.sides c.if-not-needed.false node here in
    λ need. either-family graph a.limit a.place c.in-Or.left c.in-Or.right c.requires.place (before-place a.place c.in-Or.left (length graph.nodes) c.requires.place (node-behind graph c.requires.graph a.place node here).0) (before-place a.place c.in-Or.right (length graph.nodes) c.requires.place (node-behind graph c.requires.graph a.place node here).1)
    a.table.now (get_or a.families.now c.in-Or.left EMPTY) (get_or a.families.now c.in-Or.right EMPTY) sides.0.family sides.1.family
    (λ s. place-reads graph c.requires.graph a.place node here s)
    c.either_family.new.table c.either_family.result c.either_family.ensures.family

pub returns-in-Or-clause-call : goal.returns-in-Or-clause-call
returns-in-Or-clause-call g c =
    let a = c.args in
    let graph = a.graph.now in
    let node = nodes.Or c.in-Or.left c.in-Or.right in
    let here = node-here c.as_slice.result.now graph a.place node c.as_slice.ensures c.requires.place c.in-Or.is in
    let sides = c.requires.sides c.if-not-needed.false node here in
    either-call graph a.limit a.place c.in-Or.left c.in-Or.right c.requires.place (before-place a.place c.in-Or.left (length graph.nodes) c.requires.place (node-behind graph c.requires.graph a.place node here).0) (before-place a.place c.in-Or.right (length graph.nodes) c.requires.place (node-behind graph c.requires.graph a.place node here).1)
    a.table.now (get_or a.families.now c.in-Or.left EMPTY) (get_or a.families.now c.in-Or.right EMPTY) sides.0.family sides.1.family
    (λ s. place-reads graph c.requires.graph a.place node here s)
    c.either_family.new.table c.either_family.result c.either_family.ensures.call

pub returns-then-state-clause-family : goal.returns-then-state-clause-family
returns-then-state-clause-family g c =
    let a = c.args in
    let graph = a.graph.now in
    let node = nodes.Constant c.in-Constant.state in
    let here = node-here c.as_slice.result.now graph a.place node c.as_slice.ensures c.requires.place c.in-Constant.is in
    λ need. unit-cover graph.width a.limit (place_truth graph a.place) a.table.now.nodes (λ s. place-reads graph c.requires.graph a.place node here s ∙ c.if-state.true)

pub returns-else-state-clause-family : goal.returns-else-state-clause-family
returns-else-state-clause-family g c =
    let a = c.args in
    let graph = a.graph.now in
    let node = nodes.Constant c.in-Constant.state in
    let here = node-here c.as_slice.result.now graph a.place node c.as_slice.ensures c.requires.place c.in-Constant.is in
    λ need. empty-cover graph.width a.limit (place_truth graph a.place) a.table.now.nodes (λ set le. place-reads graph c.requires.graph a.place node here (occurs set) ∙ c.if-state.false)

pub returns-in-Literal-clause-family : goal.returns-in-Literal-clause-family
returns-in-Literal-clause-family g c =
    let a = c.args in
    let graph = a.graph.now in
    let node = nodes.Literal c.in-Literal.rank c.in-Literal.occurs in
    let here = node-here c.as_slice.result.now graph a.place node c.as_slice.ensures c.requires.place c.in-Literal.is in
    λ need. place-same graph.width a.limit (literal_truth c.in-Literal.rank c.in-Literal.occurs) (place_truth graph a.place) (λ s. place-reads graph c.requires.graph a.place node here s)
    c.literal_family.new.table.nodes c.literal_family.result (c.literal_family.ensures.family graph.width (node-behind graph c.requires.graph a.place node here))

pub returns-in-Literal-clause-call : goal.returns-in-Literal-clause-call
returns-in-Literal-clause-call g c =
    let a = c.args in
    let graph = a.graph.now in
    let node = nodes.Literal c.in-Literal.rank c.in-Literal.occurs in
    let here = node-here c.as_slice.result.now graph a.place node c.as_slice.ensures c.requires.place c.in-Literal.is in
    wider-source (IsSignedImplicant graph.width a.limit (literal_truth c.in-Literal.rank c.in-Literal.occurs)) (IsGraphProduct graph a.limit)
    (λ set m. place-product graph a.limit a.place c.requires.place (literal_truth c.in-Literal.rank c.in-Literal.occurs) (λ s. place-reads graph c.requires.graph a.place node here s) set m)
    0 a.table.now c.literal_family.new.table c.literal_family.result (c.literal_family.ensures.call graph.width (node-behind graph c.requires.graph a.place node here))
