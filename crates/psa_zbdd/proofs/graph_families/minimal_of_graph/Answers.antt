use Rattle.std.proofs.Common.{Err}
use Rattle.std.proofs.lemmas.Result.{err_from_is_err_and}
use Rattle.psa_zbdd.proofs.GraphRootSteps.{positive-step, cut-family, cut-call}
use Rattle.psa_zbdd.proofs.graph_families.minimal_of_graph.Goals as goal

pub returns-in_err-positive-clause-call : goal.returns-in_err-positive-clause-call
returns-in_err-positive-clause-call g c =
    let a = c.args in
    let p = err_from_is_err_and c.from_residual-in_err-positive.result c.from_residual-in_err-positive.ensures.1 in
    rw (p.1, p.2) (positive-step a.graph.now c.requires.graph a.limit a.table.now c.root_family.new.table c.in_ok-family.family c.in_ok-family.ensures.call c.in_ok-family.ensures.family
    c.positive_part.new.table (Err c.in_err-positive.field-0.0) c.in_err-positive.ensures.call)

pub returns-clause-minimal : goal.returns-clause-minimal
returns-clause-minimal g c =
    let a = c.args in
    cut-family a.graph.now c.requires.graph a.limit a.table.now c.root_family.new.table c.in_ok-family.family c.in_ok-family.ensures.call c.in_ok-family.ensures.family
    c.positive_part.new.table c.in_ok-positive.positive c.in_ok-positive.ensures.call c.in_ok-positive.ensures.positive
    c.minimal_sets.new.table c.minimal_sets.result c.minimal_sets.ensures.call c.minimal_sets.ensures.minimal

pub returns-clause-call : goal.returns-clause-call
returns-clause-call g c =
    let a = c.args in
    cut-call a.graph.now c.requires.graph a.limit a.table.now c.root_family.new.table c.in_ok-family.family c.in_ok-family.ensures.call c.in_ok-family.ensures.family
    c.positive_part.new.table c.in_ok-positive.positive c.in_ok-positive.ensures.call c.in_ok-positive.ensures.positive
    c.minimal_sets.new.table c.minimal_sets.result c.minimal_sets.ensures.call
