use Rattle.std.proofs.Common.{◌≡◌, List, length, reverse, ap, subst, arith}
use Rattle.std.proofs.lemmas.List.{length-reverse}
use Rattle.psa_nodes.specs.declared.node.Kind.TheVariants.{Zbdd}
use Rattle.psa_nodes.specs.declared.node.Node.{Node}
use Rattle.psa_nodes.specs.Sizes.{AreSized}
use Rattle.psa_nodes.specs.Table.{Table}
use Rattle.psa_nodes.proofs.StandsLemmas.{stands-below}
use Rattle.psa_nodes.proofs.SizeLemmas.{terminal-sizes, sized-length, size-read}
use Rattle.psa_nodes.proofs.table.NodeTable.member_sizes.Goals as goal

pub returns-then-id-lt-TERMINALS-clause-sizes : goal.returns-then-id-lt-TERMINALS-clause-sizes
returns-then-id-lt-TERMINALS-clause-sizes c = terminal-sizes c.args.self.now.nodes c.args.id.0 c.if-id-lt-TERMINALS.true

pub index-requires : goal.index-requires
index-requires c =
    let ns = c.args.self.now.nodes in
    let v : reverse c.self.inside.nodes.keys ≡ ns = ap (λ (t : Table). t.nodes) c.self.view_is in
    let size : length (reverse c.self.inside.sizes.items) ≡ length (reverse c.self.inside.nodes.keys) =
    sized-length (reverse c.self.inside.nodes.keys) (reverse c.self.inside.sizes.items) c.self.invariant.sized in
    let same : length (reverse c.self.inside.nodes.keys) ≡ length ns = ap length v in
    let below = stands-below Zbdd 0 ns c.args.id.0 c.requires in
    omega (arith, length-reverse c.self.inside.sizes.items, size, same, below, c.if-id-lt-TERMINALS.false)

pub returns-clause-sizes : goal.returns-clause-sizes
returns-clause-sizes c =
    let ns = c.args.self.now.nodes in
    let v : reverse c.self.inside.nodes.keys ≡ ns = ap (λ (t : Table). t.nodes) c.self.view_is in
    let sized : AreSized ns (reverse c.self.inside.sizes.items) = subst (λ (x : List Node). AreSized x (reverse c.self.inside.sizes.items)) v c.self.invariant.sized in
    size-read ns c.self.inside.sizes.items sized c.args.id.0 c.if-id-lt-TERMINALS.false c.requires c.index.result.now c.index.ensures
