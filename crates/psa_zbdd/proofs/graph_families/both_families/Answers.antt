use Rattle.std.proofs.Common.{Ok, Err, inr}
use Rattle.std.proofs.lemmas.Result.{err_from_is_err_and}
use Rattle.psa_nodes.specs.Families.{IsProductMember}
use Rattle.psa_nodes.specs.Readings.{has}
use Rattle.psa_zbdd.specs.FamilyProducts.{IsProductSource}
use Rattle.psa_nodes.specs.Progress.{pair_level}
use Rattle.psa_zbdd.proofs.GraphFamilySteps.{wider-source, reduced-at, reduced-call, product-before}
use Rattle.psa_zbdd.proofs.graph_families.both_families.Goals as goal

pub returns-in_err-all-clause-call : goal.returns-in_err-all-clause-call
returns-in_err-all-clause-call g c =
    let a = c.args in
    let old = a.table.now in
    let Source = IsProductSource (has old.nodes a.left.0) (has old.nodes a.right.0) a.limit in
    let p = err_from_is_err_and c.from_residual.result c.from_residual.ensures.1 in
    rw (p.1, p.2) (wider-source Source Source (λ set m. m) (pair_level old.nodes a.left.0 a.right.0) old c.product.new.table (Err c.in_err-all.field-0.0) c.in_err-all.ensures.call)

pub minimal_sets-requires-clause-root : goal.minimal_sets-requires-clause-root
minimal_sets-requires-clause-root g c = c.in_ok-all.ensures.product.stands_at

pub minimal_sets-requires-clause-bounded : goal.minimal_sets-requires-clause-bounded
minimal_sets-requires-clause-bounded g c = c.in_ok-all.ensures.call.progress.bounded c.requires.bounded

pub returns-clause-family : goal.returns-clause-family
returns-clause-family g c =
    let a = c.args in
    let old = a.table.now in
    let mid = c.product.new.table in
    let all = c.in_ok-all.all in
    let call = c.in_ok-all.ensures.call in
    let Source = IsProductSource (has old.nodes a.left.0) (has old.nodes a.right.0) a.limit in
    let Members = IsProductMember (has old.nodes a.left.0) (has old.nodes a.right.0) a.limit in
    reduced-at old mid all Members Source (λ set m. inr (inr m))
    (wider-source Source Source (λ set m. m) (pair_level old.nodes a.left.0 a.right.0) old mid (Ok all) call)
    c.in_ok-all.ensures.product.stands_at
    (product-before old mid call.progress.nodes a.left.0 a.right.0 c.requires.left c.requires.right a.limit all.0 c.in_ok-all.ensures.product)
    c.minimal_sets.new.table c.minimal_sets.result c.minimal_sets.ensures.call c.minimal_sets.ensures.minimal

pub returns-clause-call : goal.returns-clause-call
returns-clause-call g c =
    let a = c.args in
    let old = a.table.now in
    let mid = c.product.new.table in
    let all = c.in_ok-all.all in
    let call = c.in_ok-all.ensures.call in
    let Source = IsProductSource (has old.nodes a.left.0) (has old.nodes a.right.0) a.limit in
    let Members = IsProductMember (has old.nodes a.left.0) (has old.nodes a.right.0) a.limit in
    reduced-call old mid all Members Source (λ set m. inr (inr m))
    (wider-source Source Source (λ set m. m) (pair_level old.nodes a.left.0 a.right.0) old mid (Ok all) call)
    c.in_ok-all.ensures.product.stands_at
    (product-before old mid call.progress.nodes a.left.0 a.right.0 c.requires.left c.requires.right a.limit all.0 c.in_ok-all.ensures.product)
    c.minimal_sets.new.table c.minimal_sets.result c.minimal_sets.ensures.call
