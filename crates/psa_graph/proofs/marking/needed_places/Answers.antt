use Rattle.std.proofs.Common.{◌<◌, ◌-◌, false, length, get_or, refl, ◌∙◌, arith}
use Rattle.psa_graph.specs.declared.graph.GraphNode.TheVariants.{Constant}
use Rattle.psa_graph.proofs.PlaceTruthLemmas.{node-here}
use Rattle.psa_graph.proofs.MarkLemmas.{sides-inside, closed-marked}
use Rattle.psa_graph.proofs.marking.needed_places.Goals as goal

pub mark_sides-requires : goal.mark_sides-requires
mark_sides-requires c =
    let graph = c.args.graph.now in
    let i = c.loop-left.left - 1 in
    let node = get_or c.as_slice-nodes.result.now i (Constant false) in
    let inside : i < length graph.nodes = omega (arith, c.loop-left-test.true, c.loop-left.invariant.within) in
    sides-inside graph c.requires i (length c.loop-left.needed) node (omega (arith, inside, c.loop-left.invariant.size))
    (node-here c.as_slice-nodes.result.now graph i node c.as_slice-nodes.ensures inside refl)

pub loop-left-preserved-then-as_slice-left : goal.loop-left-preserved-then-as_slice-left
loop-left-preserved-then-as_slice-left c =
    let graph = c.args.graph.now in
    let inv = c.loop-left.invariant in
    let i = c.loop-left.left - 1 in
    let node = get_or c.as_slice-nodes.result.now i (Constant false) in
    let inside : i < length graph.nodes = omega (arith, c.loop-left-test.true, inv.within) in
    let here = node-here c.as_slice-nodes.result.now graph i node c.as_slice-nodes.ensures inside refl in
    let marked = c.mark_sides.ensures in
    record {
      size = marked.size ∙ inv.size;
      within = omega (arith, inside);
      root = marked.kept graph.root inv.root;
      closed = closed-marked graph c.requires i node c.loop-left.needed c.mark_sides.new.needed here (λ place past. inv.closed place (omega (arith, past, c.loop-left-test.true))) marked;
    }
