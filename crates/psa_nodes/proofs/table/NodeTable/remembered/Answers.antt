use Rattle.std.proofs.Common.{◌≡◌, sym, ap, ◌∙◌}
use Rattle.std.specs.Map.{lookup}
use Rattle.psa_nodes.specs.Table.{Table}
use Rattle.psa_nodes.proofs.EqualityLemmas.{key_eq}
use Rattle.psa_nodes.proofs.EntryLemmas.{found-lookup, right-lookup, absent-lookup}
use Rattle.psa_nodes.proofs.table.NodeTable.remembered.Goals as goal

pub returns-clause-found : goal.returns-clause-found
returns-clause-found c =
    let e : c.copied.result ≡ lookup (key_eq c.args.key.now) c.args.self.now.entries =
    c.copied.ensures ∙ c.get.ensures.value ∙ ap (λ (t : Table). lookup (key_eq c.args.key.now) t.entries) c.self.view_is in
    found-lookup c.args.self.now.entries c.args.key.now c.copied.result e

pub returns-clause-right : goal.returns-clause-right
returns-clause-right c =
    let e : c.copied.result ≡ lookup (key_eq c.args.key.now) c.args.self.now.entries =
    c.copied.ensures ∙ c.get.ensures.value ∙ ap (λ (t : Table). lookup (key_eq c.args.key.now) t.entries) c.self.view_is in
    rw (← c.self.view_is) (right-lookup _ _ c.args.key.now c.copied.result c.self.invariant.table.right (e ∙ ap (λ (t : Table). lookup (key_eq c.args.key.now) t.entries) (sym c.self.view_is)))

pub returns-clause-absent : goal.returns-clause-absent
returns-clause-absent c =
    let e : c.copied.result ≡ lookup (key_eq c.args.key.now) c.args.self.now.entries =
    c.copied.ensures ∙ c.get.ensures.value ∙ ap (λ (t : Table). lookup (key_eq c.args.key.now) t.entries) c.self.view_is in
    absent-lookup c.args.self.now.entries c.args.key.now c.copied.result e
