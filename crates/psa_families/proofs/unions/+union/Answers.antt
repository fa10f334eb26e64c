use Rattle.std.proofs.Common.{Err, arith}
use Rattle.std.proofs.lemmas.Result.{err_from_is_err_and}
use Rattle.psa_nodes.proofs.CallerLemmas.{call-same, grown-own}
use Rattle.psa_nodes.specs.Progress.{pair_level}
use Rattle.psa_families.proofs.LevelLemmas.{falls}
use Rattle.psa_nodes.proofs.CallerLemmas.{remembered-result}
use Rattle.psa_families.proofs.UnionSteps.{union_key, past_hi, past_lo, high_operands, low_operands, high-exit, low-exit, ready, absent, whole-call}
use Rattle.psa_families.proofs.unions.+union.Goals as goal

pub returns-in-Some-clause-call : goal.returns-in-Some-clause-call
returns-in-Some-clause-call g t c = call-same c.args.table.now c.in-Some.id c.check.ensures

pub returns-in-Some-remembered-clause-union : goal.returns-in-Some-remembered-clause-union
returns-in-Some-remembered-clause-union g t c =
    let a = c.args in
    remembered-result a.table.now.nodes (union_key a.left a.right) c.in-Some-remembered.id c.check.ensures.fit c.in-Some-remembered.ensures.right

pub union-requires : goal.union-requires
union-requires g t c κs within =
    let a = c.args in
    let old = a.table.now in
    let s = c.split-sides.result in
    let e = c.split-sides.ensures.sides in
    let operands = high_operands old a.left a.right s e old (grown-own old.nodes) c.check.ensures.fit in
    let past = past_hi old a.left a.right s e old (grown-own old.nodes) c.check.ensures.fit in
    let less = falls (pair_level old.nodes a.left.0 a.right.0) (pair_level old.nodes s.left_hi.0 s.right_hi.0) s.var e.least e.bound past in
    (omega (arith, less), (within, (operands.0, (operands.1, c.requires.bounded))))

pub returns-in_err-hi-clause-call : goal.returns-in_err-hi-clause-call
returns-in_err-hi-clause-call g t c =
    let a = c.args in
    let p = err_from_is_err_and c.from_residual.result c.from_residual.ensures.1 in
    rw (p.1, p.2) (high-exit a.table.now a.left a.right c.split-sides.result c.split-sides.ensures.sides c.check.ensures.fit
    c.union.new.table (Err c.in_err-hi.field-0.0) c.in_err-hi.ensures.call)

pub union-requires-2 : goal.union-requires-2
union-requires-2 g t c κs within =
    let a = c.args in
    let old = a.table.now in
    let mid = c.union.new.table in
    let s = c.split-sides.result in
    let e = c.split-sides.ensures.sides in
    let p = c.in_ok-hi.ensures.call.progress in
    let operands = low_operands old a.left a.right s e mid p.nodes p.table.fit in
    let past = past_lo old a.left a.right s e mid p.nodes p.table.fit in
    let less = falls (pair_level old.nodes a.left.0 a.right.0) (pair_level mid.nodes s.left_lo.0 s.right_lo.0) s.var e.least e.bound past in
    (omega (arith, less), (within, (operands.0, (operands.1, p.bounded c.requires.bounded))))

pub returns-in_err-lo-clause-call : goal.returns-in_err-lo-clause-call
returns-in_err-lo-clause-call g t c =
    let a = c.args in
    let p = err_from_is_err_and c.from_residual-in_err-lo.result c.from_residual-in_err-lo.ensures.1 in
    rw (p.1, p.2) (low-exit a.table.now a.left a.right c.split-sides.result c.split-sides.ensures.sides c.check.ensures.fit
    c.union.new.table c.in_ok-hi.hi c.in_ok-hi.ensures.call c.union-2.new.table (Err c.in_err-lo.field-0.0) c.in_err-lo.ensures.call)

pub remember_family-requires-clause-ready : goal.remember_family-requires-clause-ready
remember_family-requires-clause-ready g t c =
    let a = c.args in
    ready a.table.now a.left a.right c.split-sides.result c.split-sides.ensures.sides c.check.ensures.fit
    c.union.new.table c.in_ok-hi.hi c.in_ok-hi.ensures.call c.union-2.new.table c.in_ok-lo.lo c.in_ok-lo.ensures.call
    c.in_ok-hi.ensures.union c.in_ok-lo.ensures.union

pub remember_family-requires-clause-absent : goal.remember_family-requires-clause-absent
remember_family-requires-clause-absent g t c =
    let a = c.args in
    absent a.table.now a.left a.right c.split-sides.result c.split-sides.ensures.sides c.check.ensures.fit
    c.union.new.table c.in_ok-hi.hi c.in_ok-hi.ensures.call c.union-2.new.table c.in_ok-lo.lo c.in_ok-lo.ensures.call
    c.in_ok-hi.ensures.union c.in_ok-lo.ensures.union c.in_default-remembered.ensures.absent

pub returns-clause-call : goal.returns-clause-call
returns-clause-call g t c =
    let a = c.args in
    whole-call a.table.now a.left a.right c.split-sides.result c.split-sides.ensures.sides c.check.ensures.fit
    c.union.new.table c.in_ok-hi.hi c.in_ok-hi.ensures.call c.union-2.new.table c.in_ok-lo.lo c.in_ok-lo.ensures.call
    c.in_ok-hi.ensures.union c.in_ok-lo.ensures.union c.remember_family.new.table c.remember_family.result c.remember_family.ensures.call
