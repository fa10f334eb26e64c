use Rattle.std.proofs.Common.{reverse, List, [], ◌∷◌, ◌++◌, sym, ap, subst, ◌∙◌}
use Rattle.indexmap.proofs.CallerLemmas.{insert_entry-new}
use Rattle.psa_nodes.specs.declared.node.MemoKey.{MemoKey}
use Rattle.psa_nodes.specs.declared.node.NodeId.{NodeId}
use Rattle.psa_nodes.specs.Table.{Table, table_of, IsStored, Lacks, IsRight}
use Rattle.psa_nodes.proofs.EqualityLemmas.{key_eq}
use Rattle.psa_nodes.proofs.EntryLemmas.{lookup-lacks}
use Rattle.psa_nodes.proofs.MakesNodeLemmas.{table-entered}
use Rattle.psa_nodes.proofs.table.NodeTable.remember.Goals as goal

pub invariant_of-self-2 : goal.invariant_of-self-2
invariant_of-self-2 c =
    let i = c.self.inside in
    let old = table_of (reverse i.nodes.keys) i.memo.entries i.limit i.refused in
    let with_entries : List (MemoKey × NodeId) → Type 0 = λ es. IsStored (reverse i.sizes.items) (table_of (reverse i.nodes.keys) es i.limit i.refused) in
    let lacks : Lacks i.memo.entries c.args.key = subst (λ (t : Table). Lacks t.entries c.args.key) (sym c.self.view_is) c.requires.absent in
    let right : IsRight (reverse i.nodes.keys) c.args.key c.args.answer = subst (λ (t : Table). IsRight t.nodes c.args.key c.args.answer) (sym c.self.view_is) c.requires.right in
    let pushed = c.in_ok-insert.ensures.entries ∙ insert_entry-new key_eq i.memo c.args.key c.args.answer (lookup-lacks i.memo.entries c.args.key lacks) in
    subst with_entries (sym pushed) (record { table = table-entered old c.args.key c.args.answer c.self.invariant.table right lacks; sized = c.self.invariant.sized })

pub returns-clause-ok : goal.returns-clause-ok
returns-clause-ok c =
    let i = c.self.inside in
    let lacks : Lacks i.memo.entries c.args.key = subst (λ (t : Table). Lacks t.entries c.args.key) (sym c.self.view_is) c.requires.absent in
    let pushed = c.in_ok-insert.ensures.entries ∙ insert_entry-new key_eq i.memo c.args.key c.args.answer (lookup-lacks i.memo.entries c.args.key lacks) in
    ap (λ (es : List (MemoKey × NodeId)). table_of (reverse i.nodes.keys) es i.limit i.refused) pushed
    ∙ ap (λ (t : Table). record t { entries = t.entries ++ (c.args.key, c.args.answer) ∷ [] }) c.self.view_is

pub returns-clause-table : goal.returns-clause-table
returns-clause-table c = (invariant_of-self-2 c).table
