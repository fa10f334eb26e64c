use Rattle.std.proofs.Common.{List, Err, subst}
use Rattle.std.proofs.lemmas.Result.{err_from_is_err_and}
use Rattle.psa_model.specs.declared.fault.ModelFault.{ModelFault}
use Rattle.psa_shape.specs.FoundFaults.{Finds}
use Rattle.psa_shape.proofs.FaultLemmas.{root-found}
use Rattle.psa_shape.proofs.checks.check_roots.Goals as goal

pub returns-in_err-check_root : goal.returns-in_err-check_root
returns-in_err-check_root c =
    let p = err_from_is_err_and c.from_residual.result c.from_residual.ensures.1 in
    rw (p.1, p.2) (subst (λ (l : List ModelFault). Finds l (Err c.in_err-check_root.field-0.0)) c.loop-file.invariant
    (root-found c.args.docs.now c.loop-file.file c.index-docs-file.result c.loop-file-test.true c.index-docs-file.is
    c.in_err-check_root.field-0.0 c.in_err-check_root.ensures))
