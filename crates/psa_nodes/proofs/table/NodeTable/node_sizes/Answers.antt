use Rattle.std.proofs.Common.{◌+◌, ◌*◌, ◌%◌, arith, sym, subst}
use Rattle.std.specs.Int.Bits.{bit_or}
use Rattle.psa_nodes.specs.declared.node.Kind.{Kind}
use Rattle.psa_nodes.specs.declared.node.Kind.TheVariants.{Zbdd}
use Rattle.psa_nodes.specs.Readings.{node_reading}
use Rattle.psa_nodes.specs.Sizes.{IsSizedAs}
use Rattle.psa_nodes.proofs.StandsLemmas.{stands-weaker}
use Rattle.psa_nodes.proofs.SizeLemmas.{node-sizes}
use Rattle.psa_nodes.proofs.table.NodeTable.node_sizes.Goals as goal

pub member_sizes-requires : goal.member_sizes-requires
member_sizes-requires c =
    let a = c.args in
    stands-weaker Zbdd (a.node.var + 1) 0 a.self.now.nodes a.node.hi.0 (omega arith) (rw c.in-Zbdd.is at c.requires.hi)

pub member_sizes-requires-in-Zbdd : goal.member_sizes-requires-in-Zbdd
member_sizes-requires-in-Zbdd c =
    let a = c.args in
    stands-weaker Zbdd (a.node.var + 1) 0 a.self.now.nodes a.node.lo.0 (omega arith) (rw c.in-Zbdd.is at c.requires.lo)

pub returns-in-Zbdd : goal.returns-in-Zbdd
returns-in-Zbdd c =
    let a = c.args in
    let ns = a.self.now.nodes in
    subst (λ (k : Kind). IsSizedAs k (node_reading ns a.node).as_family (bit_or (c.member_sizes.result * 2 % 18446744073709551616) c.member_sizes-in-Zbdd.result)) (sym c.in-Zbdd.is)
    (node-sizes ns c.check.ensures.fit a.node c.in-Zbdd.is (rw c.in-Zbdd.is at c.requires.lo) c.member_sizes.result c.member_sizes-in-Zbdd.result
    c.member_sizes.ensures.sizes c.member_sizes-in-Zbdd.ensures.sizes)
