use Rattle.std.proofs.Common.{◌+◌, Err, arith}
use Rattle.std.proofs.lemmas.Result.{err_from_is_err_and}
use Rattle.psa_nodes.specs.declared.node.Kind.TheVariants.{Bdd}
use Rattle.psa_nodes.proofs.CallerLemmas.{stands-weaker}
use Rattle.psa_nodes.specs.Progress.{pair_level}
use Rattle.psa_bdd.proofs.KeyLemmas.{result-key}
use Rattle.psa_bdd.proofs.LevelLemmas.{falls}
use Rattle.psa_bdd.proofs.CombineSteps.{past_hi, past_lo, left_lo_stands, right_lo_stands, high-exit, low-exit, ready, absent, whole-call}
use Rattle.psa_bdd.proofs.combine.+combine.Goals as goal

pub returns-in-Some-remembered-clause-combined : goal.returns-in-Some-remembered-clause-combined
returns-in-Some-remembered-clause-combined g t c =
    let a = c.args in
    result-key a.connective a.table.now.nodes a.left a.right c.in-Some-remembered.id c.check.ensures.fit
    (rw c.key.ensures at c.in-Some-remembered.ensures.right)

pub combine-requires : goal.combine-requires
combine-requires g t c κs within =
    let a = c.args in
    let old = a.table.now in
    let s = c.split-sides.result in
    let e = c.split-sides.ensures in
    let past = past_hi a.connective old c.check.ensures.fit a.left a.right s.var s.left_hi.0 s.left_lo.0 s.right_hi.0 s.right_lo.0 e.left e.right e.left_stands e.right_stands e.least e.bound in
    let less = falls (pair_level old.nodes a.left.0 a.right.0) (pair_level old.nodes s.left_hi.0 s.right_hi.0) s.var e.least e.bound past in (
      omega (arith, less),
      (
        within,
        (
          stands-weaker Bdd (s.var + 1) 0 old.nodes s.left_hi.0 (omega arith) e.left.hi_stands,
          (stands-weaker Bdd (s.var + 1) 0 old.nodes s.right_hi.0 (omega arith) e.right.hi_stands, c.requires.bounded),
        ),
      ),
    )

pub returns-in_err-hi-clause-call : goal.returns-in_err-hi-clause-call
returns-in_err-hi-clause-call g t c =
    let a = c.args in
    let s = c.split-sides.result in
    let e = c.split-sides.ensures in
    let p = err_from_is_err_and c.from_residual.result c.from_residual.ensures.1 in
    rw (p.1, p.2) (high-exit a.connective a.table.now c.check.ensures.fit a.left a.right s.var s.left_hi.0 s.left_lo.0 s.right_hi.0 s.right_lo.0 e.left e.right e.left_stands e.right_stands e.least e.bound
    c.combine.new.table (Err c.in_err-hi.field-0.0) c.in_err-hi.ensures.call)

pub combine-requires-2 : goal.combine-requires-2
combine-requires-2 g t c κs within =
    let a = c.args in
    let old = a.table.now in
    let mid = c.combine.new.table in
    let s = c.split-sides.result in
    let e = c.split-sides.ensures in
    let p = c.in_ok-hi.ensures.call.progress in
    let past = past_lo a.connective old c.check.ensures.fit a.left a.right s.var s.left_hi.0 s.left_lo.0 s.right_hi.0 s.right_lo.0 e.left e.right e.left_stands e.right_stands e.least e.bound mid p.nodes p.table.fit in
    let less = falls (pair_level old.nodes a.left.0 a.right.0) (pair_level mid.nodes s.left_lo.0 s.right_lo.0) s.var e.least e.bound past in (
      omega (arith, less),
      (
        within,
        (
          left_lo_stands a.connective old c.check.ensures.fit a.left a.right s.var s.left_hi.0 s.left_lo.0 s.right_hi.0 s.right_lo.0 e.left e.right e.left_stands e.right_stands e.least e.bound mid p.nodes p.table.fit,
          (
            right_lo_stands a.connective old c.check.ensures.fit a.left a.right s.var s.left_hi.0 s.left_lo.0 s.right_hi.0 s.right_lo.0 e.left e.right e.left_stands e.right_stands e.least e.bound mid p.nodes p.table.fit,
            p.bounded c.requires.bounded,
          ),
        ),
      ),
    )

pub returns-in_err-lo-clause-call : goal.returns-in_err-lo-clause-call
returns-in_err-lo-clause-call g t c =
    let a = c.args in
    let s = c.split-sides.result in
    let e = c.split-sides.ensures in
    let p = err_from_is_err_and c.from_residual-in_err-lo.result c.from_residual-in_err-lo.ensures.1 in
    rw (p.1, p.2) (low-exit a.connective a.table.now c.check.ensures.fit a.left a.right s.var s.left_hi.0 s.left_lo.0 s.right_hi.0 s.right_lo.0 e.left e.right e.left_stands e.right_stands e.least e.bound
    c.combine.new.table c.in_ok-hi.hi c.in_ok-hi.ensures.call c.combine-2.new.table (Err c.in_err-lo.field-0.0) c.in_err-lo.ensures.call)

pub finish-requires-clause-ready : goal.finish-requires-clause-ready
finish-requires-clause-ready g t c =
    let a = c.args in
    let s = c.split-sides.result in
    let e = c.split-sides.ensures in
    ready a.connective a.table.now c.check.ensures.fit a.left a.right s.var s.left_hi.0 s.left_lo.0 s.right_hi.0 s.right_lo.0 e.left e.right e.left_stands e.right_stands e.least e.bound
    c.combine.new.table c.in_ok-hi.hi c.in_ok-hi.ensures.call c.combine-2.new.table c.in_ok-lo.lo c.in_ok-lo.ensures.call
    c.in_ok-hi.ensures.combined c.in_ok-lo.ensures.combined

pub finish-requires-clause-absent : goal.finish-requires-clause-absent
finish-requires-clause-absent g t c =
    let a = c.args in
    let s = c.split-sides.result in
    let e = c.split-sides.ensures in
    absent a.connective a.table.now c.check.ensures.fit a.left a.right s.var s.left_hi.0 s.left_lo.0 s.right_hi.0 s.right_lo.0 e.left e.right e.left_stands e.right_stands e.least e.bound
    c.combine.new.table c.in_ok-hi.hi c.in_ok-hi.ensures.call c.combine-2.new.table c.in_ok-lo.lo c.in_ok-lo.ensures.call
    (rw c.key.ensures at c.in_default-remembered.ensures.absent)

pub returns-clause-call : goal.returns-clause-call
returns-clause-call g t c =
    let a = c.args in
    let s = c.split-sides.result in
    let e = c.split-sides.ensures in
    whole-call a.connective a.table.now c.check.ensures.fit a.left a.right s.var s.left_hi.0 s.left_lo.0 s.right_hi.0 s.right_lo.0 e.left e.right e.left_stands e.right_stands e.least e.bound
    c.combine.new.table c.in_ok-hi.hi c.in_ok-hi.ensures.call c.combine-2.new.table c.in_ok-lo.lo c.in_ok-lo.ensures.call
    c.finish.new.table c.finish.result c.finish.ensures.call
