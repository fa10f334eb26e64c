use Rattle.std.proofs.Common.{◌≡◌, ◌+◌, true, Some, length, reverse, refl, sym, subst, true≢false, inl}
use Rattle.psa_nodes.specs.Readings.{node_at, stands, node_reading}
use Rattle.psa_nodes.specs.Sizes.{IsSizedAs}
use Rattle.psa_nodes.specs.Table.{Table, table_of, IsTable, MakesNode}
use Rattle.psa_nodes.proofs.MakesNodeLemmas.{added_table, added_makes, made_ok}
use Rattle.psa_nodes.proofs.CanonicalLemmas.{new-at}
use Rattle.psa_nodes.proofs.table.NodeTable.enter.Goals as goal

pub returns-then-not-is_full-clause-table : goal.returns-then-not-is_full-clause-table
returns-then-not-is_full-clause-table c =
    let i = c.self.inside in
    let n = c.args.node in
    let v = sym c.self.view_is in
    added_table (reverse i.nodes.keys) (reverse c.add.new.nodes.keys) i.memo.entries i.limit i.refused n c.self.invariant.table
    (subst (λ (t : Table). t.limit ≡ Some (length t.nodes) → ⊥) v (λ e. true≢false (sym (c.if-not-is_full.ensures.1 e))))
    (subst (λ (t : Table). stands n.kind (n.var + 1) t.nodes n.hi.0 ≡ true) v c.requires.hi)
    (subst (λ (t : Table). stands n.kind (n.var + 1) t.nodes n.lo.0 ≡ true) v c.requires.lo)
    c.requires.reduced c.add.result c.add.ensures.added c.add.ensures.err

pub invariant_of-self : goal.invariant_of-self
invariant_of-self c = record {
  table = returns-then-not-is_full-clause-table c;
  sized =
      let n = c.args.node in
      c.add.ensures.sized c.self.invariant.sized
      (subst (λ (t : Table). IsSizedAs n.kind (node_reading t.nodes n).as_family c.node_sizes-sizes.result) (sym c.self.view_is) c.node_sizes-sizes.ensures);
}

pub returns-then-not-is_full-clause-made : goal.returns-then-not-is_full-clause-made
returns-then-not-is_full-clause-made c =
    let i = c.self.inside in
    let n = c.args.node in
    let v = sym c.self.view_is in
    subst (λ (t : Table). MakesNode n t (table_of (reverse c.add.new.nodes.keys) i.memo.entries i.limit i.refused) c.add.result) c.self.view_is
    (added_makes (reverse i.nodes.keys) (reverse c.add.new.nodes.keys) i.memo.entries i.limit i.refused n c.self.invariant.table
    (subst (λ (t : Table). t.limit ≡ Some (length t.nodes) → ⊥) v (λ e. true≢false (sym (c.if-not-is_full.ensures.1 e))))
    (subst (λ (t : Table). stands n.kind (n.var + 1) t.nodes n.hi.0 ≡ true) v c.requires.hi)
    (subst (λ (t : Table). stands n.kind (n.var + 1) t.nodes n.lo.0 ≡ true) v c.requires.lo)
    c.requires.reduced c.add.result c.add.ensures.at c.add.ensures.added c.add.ensures.err c.add.ensures.memory)

pub returns-in-Some-clause-made : goal.returns-in-Some-clause-made
returns-in-Some-clause-made c =
    let n = c.args.node in
    let id = c.in-Some.id in
    let there : node_at c.args.self.now.nodes id.0 ≡ Some n = subst (λ (t : Table). node_at t.nodes id.0 ≡ Some n) c.self.view_is c.in-Some.ensures.found in
    made_ok c.args.self.now n c.requires.hi c.requires.lo c.requires.reduced c.args.self.now id
    (subst IsTable c.self.view_is c.self.invariant.table) there (inl refl)
    (λ r. new-at c.args.self.now.nodes n r.fits.fresh id.0 n there refl)
